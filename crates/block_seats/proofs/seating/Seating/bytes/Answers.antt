use Rattle.std.proofs.Common.{ℕ, ◌≤◌, List, length, ap, sym, subst, ◌∙◌, arith}
use Rattle.block_seats.specs.Blocks.{BlockView, bytes_of, length_of}
use Rattle.block_seats.proofs.Views.{cell_slice, cell_block, cell_fits, size_in}
use Rattle.block_seats.proofs.seating.Seating.bytes.Goals as goal

pub used_at-requires : goal.used_at-requires
used_at-requires c = cell_slice c.self.inside _ c.self.view_is c.self.invariant c.args.block c.requires

pub returns-clause-value : goal.returns-clause-value
returns-clause-value c =
    c.read.ensures.value
    ∙ ap (λ used. used.bytes) c.used_at.ensures
    ∙ ap (λ (b : BlockView). bytes_of b) (sym (cell_block c.self.inside _ c.self.view_is c.self.invariant c.args.block c.requires))

pub returns-clause-some : goal.returns-clause-some
returns-clause-some c =
    subst (λ (bytes : List ℕ). 1 ≤ length bytes) (sym (c.read.ensures.value ∙ ap (λ used. used.bytes) c.used_at.ensures))
    (cell_fits c.self.inside _ c.self.view_is c.self.invariant c.args.block c.requires).1

pub returns-clause-limit : goal.returns-clause-limit
returns-clause-limit c =
    omega (
      arith,
      ap (λ (bytes : List ℕ). length bytes) (c.read.ensures.value ∙ ap (λ used. used.bytes) c.used_at.ensures),
      size_in c.self.inside _ c.self.view_is c.self.invariant,
      (cell_fits c.self.inside _ c.self.view_is c.self.invariant c.args.block c.requires).2,
    )

pub returns-clause-counted : goal.returns-clause-counted
returns-clause-counted c =
    ap (λ (bytes : List ℕ). length bytes) (c.read.ensures.value ∙ ap (λ used. used.bytes) c.used_at.ensures)
    ∙ ap (λ (b : BlockView). length_of b) (sym (cell_block c.self.inside _ c.self.view_is c.self.invariant c.args.block c.requires))
