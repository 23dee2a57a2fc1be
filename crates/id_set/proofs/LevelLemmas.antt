-- A level of words stays in order, and finds its lowest bit.
use Rattle.std.proofs.Common.{◌≡◌, ℕ, ◌+◌, ◌-◌, ◌*◌, ◌/◌, ◌%◌, ◌^◌, ◌<◌, ◌≤◌, ◌≢◌, Bool, true, false, not, List, length, map, get_or, set, eqb, bit_and, bit_or, cond, ltb, Option, Some, None, refl, sym, ap, ◌∙◌, subst, inl, inr, arith}
use Rattle.std.specs.Prelude.{position}
use Rattle.std.specs.List.{position_or_len}
use Rattle.std.specs.Int.{bit_at, bit_not, w64, trailing_zeros}
use Rattle.std.proofs.lemmas.Bool.{cases_eq, cases_lt, false≢true, eqb-true, eq-eqb}
use Rattle.std.proofs.lemmas.List.{length-set, length-map, map-set, get_or-map, set-get_or, get_or_past}
use Rattle.std.proofs.lemmas.List.Sums.{position_or_len_is, fails_before_first, sum_by-set, count_by-le-length}
use Rattle.std.proofs.lemmas.Bool.Decides.{nat_tests}
use Rattle.std.proofs.lemmas.List.Quantifiers.{position-Some}
use Rattle.std.proofs.lemmas.Nat.{and_le_l}
use Rattle.std.proofs.lemmas.Nat.Bits.{bit_at-zero, bit_at-trailing_zeros}
use Rattle.id_set.specs.IdSet.{contains, insert, remove, first, count}
use Rattle.id_set.specs.Words.{is_set, bit_of, bits_of, filled_of, IsLevel}
use Rattle.id_set.proofs.BitLemmas.{length-bits_of, get_or-bits_of, with_bit, without_bit, Writes, bit_of-written_same, bit_of-written_other, writes-with_bit, writes-without_bit}

-- a number below the bound has its word
pub word_inside : (bound : ℕ) (words : List ℕ) (filled : List Bool) (id : ℕ) → IsLevel bound words filled → id < bound → id / 64 < length words
word_inside bound words filled id level below = let enough = level.enough in omega arith

-- and its word has a place in the level above
pub length-filled : (bound : ℕ) (words : List ℕ) (filled : List Bool) → IsLevel bound words filled → length filled ≡ length words
length-filled bound words filled level = ap length level.summed ∙ length-map words (λ word. not (eqb word 0))

-- whether a word has a bit that is set, as the level above says it
pub filled_at : (words : List ℕ) (at : ℕ) → at < length words → get_or (filled_of words) at false ≡ not (eqb (get_or words at 0) 0)
filled_at words at inside = get_or-map (λ word. not (eqb word 0)) words at 0 false inside

-- after a write of a number's word, where the level above is told what the word is then
pub level-written : (bound : ℕ) (words : List ℕ) (filled : List Bool) (id word : ℕ) (member : Bool) → IsLevel bound words filled → id < bound → Writes words id word member → IsLevel bound (set words (id / 64) word) (set filled (id / 64) (not (eqb word 0)))
level-written bound words filled id word member level below w = record {
  small = level.small;
  enough = let enough = level.enough in omega (arith, length-set words (id / 64) word);
  bounded = λ i past. bit_of-written_other words id word member w i (omega arith) ∙ level.bounded i past;
  summed = ap (λ f. set f (id / 64) (not (eqb word 0))) level.summed ∙ sym (map-set (λ x. not (eqb x 0)) words (id / 64) word);
}

pub zero_is-unset : (word place : ℕ) → is_set word place ≡ true → word ≢ 0
zero_is-unset word place one zero_is = false≢true (sym (ap (λ b. eqb b 1) (bit_at-zero place)) ∙ sym (ap (λ x. is_set x place) zero_is) ∙ one)

pub not_zero : (n : ℕ) → n ≢ 0 → not (eqb n 0) ≡ true
not_zero n apart = grind (arith, eqb-true)

-- a level above that says already that the word has a bit
told-filled : (words : List ℕ) (filled : List Bool) (at : ℕ) → at < length words → filled ≡ filled_of words → get_or words at 0 ≢ 0 → set filled at true ≡ filled
told-filled words filled at inside summed apart =
    let told : get_or filled at false ≡ true = ap (λ f. get_or f at false) summed ∙ filled_at words at inside ∙ not_zero _ apart in
    ap (set filled at) (sym told) ∙ set-get_or filled at false

module _ (bound : ℕ) (words : List ℕ) (filled : List Bool) (id : ℕ) (level : IsLevel bound words filled) (below : id < bound) where
  abbrev word : ℕ
  word = get_or words (id / 64) 0

  inside : id / 64 < length words
  inside = word_inside bound words filled id level below

  abbrev Inserted : List Bool → Type 0
  Inserted above = IsLevel bound (set words (id / 64) (with_bit word (id % 64))) above

  abbrev Removed : List Bool → Type 0
  Removed above = IsLevel bound (set words (id / 64) (without_bit word (id % 64))) above

  pub level-inserted : Inserted (insert filled (id / 64))
  level-inserted =
      let written = writes-with_bit words id inside in
      subst (λ b. Inserted (set filled (id / 64) b)) (not_zero _ (zero_is-unset _ (id % 64) written.here))
      (level-written bound words filled id _ true level below written)

  pub level-inserted_again : word ≢ 0 → Inserted filled
  level-inserted_again apart = subst Inserted (told-filled words filled (id / 64) inside level.summed apart) level-inserted

  pub level-emptied : without_bit word (id % 64) ≡ 0 → Removed (remove filled (id / 64))
  level-emptied none_left =
      subst (λ b. Removed (set filled (id / 64) b)) (ap (λ x. not (eqb x 0)) none_left)
      (level-written bound words filled id _ false level below (writes-without_bit words id inside))

  pub level-removed : without_bit word (id % 64) ≢ 0 → Removed filled
  level-removed some_left =
      let had : word ≢ 0 = λ zero_is. some_left (let le = and_le_l word (bit_not w64 (1 * 2 ^ (id % 64) % 2 ^ 64)) in omega arith) in
      subst Removed (told-filled words filled (id / 64) inside level.summed had)
      (subst (λ b. Removed (set filled (id / 64) b)) (not_zero _ some_left)
      (level-written bound words filled id _ false level below (writes-without_bit words id inside)))

-- the first member is a member that no member is below
pub first_is : (members : List Bool) (id : ℕ) → id < length members → get_or members id false ≡ true → ((k : ℕ) → k < id → get_or members k false ≡ false) → first members ≡ Some id
first_is members id inside member lower =
    let at = position_or_len_is (λ m. m) members id false (omega arith) lower (λ _. member) in
    grind (arith, at)

pub first_none : (members : List Bool) → ((k : ℕ) → k < length members → get_or members k false ≡ false) → first members ≡ None
first_none members each =
    let at = position_or_len_is (λ m. m) members (length members) false (omega arith) each (λ past. absurd (omega arith)) in
    grind (arith, at)

-- a set without a first member is empty
pub none_from_first : (members : List Bool) → first members ≡ None → (k : ℕ) → k < length members → get_or members k false ≡ false
none_from_first members none_first k inside =
    elim (cases_lt (position_or_len (λ m. m) members) (length members)) [
      | inl some_first ↦
          let is : first members ≡ Some (position_or_len (λ m. m) members) = grind (arith, nat_tests) in
          cc
      | inr past ↦ fails_before_first (λ m. m) members k false (omega arith)
    ]

zero_bit : (word place : ℕ) → not (eqb word 0) ≡ false → is_set word place ≡ false
zero_bit word place empty_word =
    let zero_is : word ≡ 0 = grind (arith, nat_tests) in
    ap (λ x. is_set x place) zero_is ∙ ap (λ b. eqb b 1) (bit_at-zero place)

-- a word that the level above has no bit for has no bit
unfilled_bit : (bound : ℕ) (words : List ℕ) (filled : List Bool) (i : ℕ) → IsLevel bound words filled → i / 64 < length words → get_or filled (i / 64) false ≡ false → bit_of words i ≡ false
unfilled_bit bound words filled i level inside unfilled =
    zero_bit _ (i % 64) (sym (ap (λ f. get_or f (i / 64) false) level.summed ∙ filled_at words (i / 64) inside) ∙ unfilled)

-- no word has a bit
pub first-none_filled : (bound : ℕ) (words : List ℕ) (filled : List Bool) → IsLevel bound words filled → first filled ≡ None → first (bits_of bound words) ≡ None
first-none_filled bound words filled level none_first =
    first_none (bits_of bound words) (λ k within.
    let below : k < bound = omega (arith, length-bits_of bound words) in
    let inside = word_inside bound words filled k level below in
    let unfilled = none_from_first filled none_first (k / 64) (omega (arith, length-filled bound words filled level)) in
    get_or-bits_of bound words k false below ∙ unfilled_bit bound words filled k level inside unfilled)

-- the lowest bit of the lowest word that has one
module _ (bound : ℕ) (words : List ℕ) (filled : List Bool) (at : ℕ) (level : IsLevel bound words filled) (found : first filled ≡ Some at) (fits : get_or words at 0 < 2 ^ 64) where
  abbrev lowest : ℕ
  lowest = at * 64 + trailing_zeros w64 (get_or words at 0)

  filled_first : (at < length filled) × (get_or filled at false ≡ true) × ((k : ℕ) → k < at → get_or filled k false ≡ false)
  filled_first = position-Some (λ m. m) filled at false found

  word_is-above_zero : 0 < get_or words at 0
  word_is-above_zero =
      let inside : at < length words = omega (arith, filled_first.0, length-filled bound words filled level) in
      let told = sym (ap (λ f. get_or f at false) level.summed ∙ filled_at words at inside) ∙ filled_first.1 in
      grind (arith, nat_tests)

  zeros : (trailing_zeros w64 (get_or words at 0) < 64) × (bit_at (get_or words at 0) (trailing_zeros w64 (get_or words at 0)) ≡ 1) × ((i : ℕ) → i < trailing_zeros w64 (get_or words at 0) → bit_at (get_or words at 0) i ≡ 0)
  zeros = bit_at-trailing_zeros w64 (get_or words at 0) word_is-above_zero fits

  lowest_bit : bit_of words lowest ≡ true
  lowest_bit =
      let z = zeros.0 in
      let here : lowest / 64 ≡ at = omega arith in
      let place : lowest % 64 ≡ trailing_zeros w64 (get_or words at 0) = omega arith in
      ap (λ w. is_set (get_or words w 0) (lowest % 64)) here ∙ ap (is_set (get_or words at 0)) place ∙ ap (λ b. eqb b 1) zeros.1

  pub lowest_below : lowest < bound
  lowest_below =
      elim (cases_lt lowest bound) [
        | inl below ↦ below
        | inr past ↦ absurd (false≢true (sym (level.bounded lowest past) ∙ lowest_bit))
      ]

  lower_bits : (k : ℕ) → k < lowest → bit_of words k ≡ false
  lower_bits k lower =
      let z = zeros.0 in
      let inside : at < length words = omega (arith, filled_first.0, length-filled bound words filled level) in
      elim (cases_lt (k / 64) at) [
        | inl before ↦ unfilled_bit bound words filled k level (omega arith) (filled_first.2 (k / 64) before)
        | inr not_before ↦
            let here : k / 64 ≡ at = omega arith in
            ap (λ w. is_set (get_or words w 0) (k % 64)) here ∙ ap (λ b. eqb b 1) (zeros.2 (k % 64) (omega arith))
      ]

  pub first-filled : first (bits_of bound words) ≡ Some lowest
  first-filled =
      first_is (bits_of bound words) lowest (let below = lowest_below in omega (arith, length-bits_of bound words))
      (get_or-bits_of bound words lowest false lowest_below ∙ lowest_bit)
      (λ k lower. get_or-bits_of bound words k false (let below = lowest_below in omega arith) ∙ lower_bits k lower)

abbrev weight : Bool → ℕ
weight member = cond member 1 0

-- a set without a member that it has room for isn't full
pub count-absent : (members : List Bool) (id : ℕ) → id < length members → contains members id ≡ false → count members < length members
count-absent members id within absent =
    let more : count (set members id true) + weight (get_or members id false) ≡ count members + 1 = sum_by-set weight members id true false within in
    let most : count (set members id true) ≤ length (set members id true) = count_by-le-length (λ b. b) (set members id true) in
    let none : weight (get_or members id false) ≡ 0 = ap weight absent in
    omega (arith, length-set members id true)
