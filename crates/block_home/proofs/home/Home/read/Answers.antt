use Rattle.std.proofs.Common.{◌≡◌, ℕ, List, length, take, drop, ap, sym, ◌∙◌}
use Rattle.block_home.specs.Stored.{content_in}
use Rattle.block_home.proofs.Fetched.{content_of_buffer}
use Rattle.block_home.proofs.Shelved.{part_fetched}
use Rattle.block_home.proofs.home.Home.read.Goals as goal
use Rattle.block_home.proofs.home.Home.read.Goals.{in-Ok, in-Err}

pub returns-clause-bytes : goal.returns-clause-bytes
returns-clause-bytes g c = elim c.match-fetch_image.branch [
  | in-Ok w ↦
      let image = c.self.inside.image in
      let fits : length image.items ≡ image.len = ap (λ (xs : List ℕ). length xs) (sym c.deref_mut.ensures.value) ∙ c.deref_mut.ensures.len in
      let content = content_of_buffer c.fetch_image.new.image image.items w.deref.result.now image.len c.in-Some.stamp.length (w.in-Ok.ensures.buffer ∙ c.deref_mut.ensures.len) fits w.deref.ensures.value in
      let part = w.copy_part-in-Ok.ensures ∙ ap (λ (bytes : List ℕ). take (length c.args.out.now) (drop c.args.from bytes)) content in
      let whole = part ∙ ap (λ (n : ℕ). take n (drop c.args.from (content_in c.in-Some.stamp.length c.fetch_image.new.image))) (sym w.copy_part-in-Ok.auto.out) in
      rw (w.result-is, w.out-is, ← c.self.view_is)
      (part_fetched _ _ _ _ _ c.in-Some.stamp c.fetch_image.new.image _ (sym c.stamp.ensures.stamp ∙ c.in-Some.is) w.in-Ok.ensures.fetches whole)
  | in-Err w ↦ rw w.result-is tt
]
