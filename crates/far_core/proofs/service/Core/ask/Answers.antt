use Rattle.far_history.specs.Entries.{Ask}
use Rattle.far_core.proofs.Given.{serves_seen}
use Rattle.far_core.proofs.service.Core.ask.Goals as goal

pub returns-clause-serves : goal.returns-clause-serves
returns-clause-serves g c =
    let ens = c.apply-outcome.ensures in
    serves_seen g.K.Shelf.told g.K.Shelf.faults _ c.args.self.now _ (Ask 0 c.args.request) c.apply-outcome.result.outcome c.self.view_is
    (record { terms = ens.terms; stands = ens.stands; store = record { kind = ens.kind; counts = ens.counts }; telling = ens.telling; void = ens.void })
