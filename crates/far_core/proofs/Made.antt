-- The pool as it is made, the highest slice first.
use Rattle.std.proofs.Common.{◌≡◌, ℕ, suc, ◌+◌, ◌-◌, ◌<◌, List, [], ◌∷◌, ◌++◌, map, reverse, sym, ap, ◌∙◌, arith}
use Rattle.std.specs.List.{range_with_len}
use Rattle.std.proofs.lemmas.List.{reverse-append}
use Rattle.slice_seq.specs.Slice.{SliceView}
use Rattle.far_core.specs.Runs.{fresh_pool}
use Rattle.far_core.specs.Cores.{sized}

-- the last so many of the slices below a count
abbrev pub made_slices : ℕ → ℕ → ℕ → List SliceView
made_slices size count made = sized size (map (λ id. (id, 0)) (range_with_len (count - made) made))

range-first : (a n : ℕ) → range_with_len a (n + 1) ≡ a ∷ range_with_len (a + 1) n
range-first a n = ap (range_with_len a) (let e : n + 1 ≡ suc n = omega arith in e)

-- one more
pub made_slices-more : (size count made : ℕ) (items : List SliceView) (slice : SliceView) → made < count → reverse items ≡ made_slices size count made → slice ≡ record { id = count - 1 - made; size = size; number = 0 }
    → reverse (items ++ slice ∷ []) ≡ made_slices size count (made + 1)
made_slices-more size count made items slice less before is =
    let list : List ℕ → List SliceView = λ ids. sized size (map (λ id. (id, 0)) ids) in
    let next : count - made ≡ count - (made + 1) + 1 = omega arith in
    let here : count - 1 - made ≡ count - (made + 1) = omega arith in
    reverse-append items (slice ∷ [])
    ∙ (λ i. is i ∷ before i)
    ∙ (λ i. record { id = here i; size = size; number = 0 } ∷ list (range_with_len (next i) made))
    ∙ ap list (sym (range-first (count - (made + 1)) made))

pub all_made : (size count : ℕ) → made_slices size count count ≡ sized size (fresh_pool count)
all_made size count = ap (λ n. sized size (map (λ id. (id, 0)) (range_with_len n count))) (let e : count - count ≡ 0 = omega arith in e)
