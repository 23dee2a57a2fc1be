use Rattle.std.proofs.Common.{refl, reverse, ap, ◌∙◌, [], ◌∷◌}
use Rattle.std.proofs.lemmas.List.{reverse-append}
use Rattle.far_core.proofs.Given.{top_of, gives_back, gives_away, gives_seen}
use Rattle.far_core.proofs.service.Core.grant.Goals as goal

pub returns-in-Some-slice-clause-given : goal.returns-in-Some-slice-clause-given
returns-in-Some-slice-clause-given g c =
    let slice = c.in-Some.slice in
    let left = c.pop.new.self.items in
    gives_seen g.K.Shelf.told g.K.Shelf.faults _ c.args.self.now _ slice (reverse left) c.apply-outcome.result.outcome c.self.view_is (top_of c.self.inside.slices.hand.items left c.pop.result slice c.pop.ensures.items c.in-Some.is)
    (gives_back g.K.Shelf.told g.K.Shelf.faults _ _ slice (reverse left) c.apply-outcome.result.outcome c.apply-outcome.result.slice (record { terms = c.apply-outcome.ensures.terms; stands = c.apply-outcome.ensures.stands; store = record { kind = c.apply-outcome.ensures.kind; counts = c.apply-outcome.ensures.counts }; telling = c.apply-outcome.ensures.telling; void = c.apply-outcome.ensures.void }) c.apply-outcome.ensures.slice c.apply-outcome.ensures.fitting refl
    c.in-Some-slice.slice c.in-Some-slice.is (ap reverse c.push_reserved.ensures.items ∙ reverse-append left (c.in-Some-slice.slice ∷ [])))

pub returns-in_default-slice-clause-given : goal.returns-in_default-slice-clause-given
returns-in_default-slice-clause-given g c =
    let slice = c.in-Some.slice in
    let left = c.pop.new.self.items in
    gives_seen g.K.Shelf.told g.K.Shelf.faults _ c.args.self.now _ slice (reverse left) c.apply-outcome.result.outcome c.self.view_is (top_of c.self.inside.slices.hand.items left c.pop.result slice c.pop.ensures.items c.in-Some.is)
    (gives_away g.K.Shelf.told g.K.Shelf.faults _ _ slice (reverse left) c.apply-outcome.result.outcome c.apply-outcome.result.slice (record { terms = c.apply-outcome.ensures.terms; stands = c.apply-outcome.ensures.stands; store = record { kind = c.apply-outcome.ensures.kind; counts = c.apply-outcome.ensures.counts }; telling = c.apply-outcome.ensures.telling; void = c.apply-outcome.ensures.void }) c.apply-outcome.ensures.slice c.apply-outcome.ensures.fitting refl
    c.in_default-slice.is refl)
