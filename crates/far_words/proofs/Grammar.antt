-- Laws of the grammar of names.
use Rattle.std.proofs.Common.{◌≡◌, ℕ, ◌<◌, ◌≤◌, ◌+◌, ◌-◌, ◌*◌, ◌==◌, nat_le, Bool, true, false, ◌&&◌, List, [], ◌∷◌, length, length-append, count_by, refl, ap, arith}
use Rattle.std.proofs.lemmas.Bool.{leb-true, le-leb}
use Rattle.std.proofs.lemmas.List.Splits.{length-slice_split, join_with_byte-slice_split}
use Rattle.std.specs.List.{list_all, join_with_byte}
use Rattle.far_words.specs.Paths.{is_between, is_name_byte, is_part, slash, parts_of, is_path}

pub is_between-within : (low high n : ℕ) → low ≤ n → n ≤ high → is_between low high n ≡ true
is_between-within low high n l h = rw (le-leb low n l, le-leb n high h) refl

pub both_true : (a b : Bool) → (a && b) ≡ true → (a ≡ true) × (b ≡ true)
both_true true b e = (refl, e)
both_true false b e = cc

pub within-is_between : (low high n : ℕ) → is_between low high n ≡ true → (low ≤ n) × (n ≤ high)
within-is_between low high n e = let b = both_true (nat_le low n) (nat_le n high) e in (leb-true low n b.0, leb-true n high b.1)

pub not_true : (b : Bool) → (b ≡ true → ⊥) → b ≡ false
not_true true f = absurd (f refl)
not_true false f = refl

pub is_part-within : (text : List ℕ) → 1 ≤ length text → length text ≤ 32 → list_all is_name_byte text ≡ is_part text
unfolding is_part
is_part-within text l h = rw (is_between-within 1 32 (length text) l h) refl

pub is_part-empty : (text : List ℕ) → length text < 1 → false ≡ is_part text
unfolding is_part
is_part-empty text l = rw (not_true (is_between 1 32 (length text)) (λ e. let w = within-is_between 1 32 (length text) e in absurd (omega arith))) refl

pub is_part-too_long : (text : List ℕ) → 32 < length text → false ≡ is_part text
unfolding is_part
is_part-too_long text l = rw (not_true (is_between 1 32 (length text)) (λ e. let w = within-is_between 1 32 (length text) e in absurd (omega arith))) refl

pub record IsSized (text : List ℕ) : Type 0 where
  pub some_byte : 1 ≤ length text
  pub at_most_32 : length text ≤ 32

pub part_sized : (text : List ℕ) → is_part text ≡ true → IsSized text
unfolding is_part
part_sized text e =
    let w = within-is_between 1 32 (length text) (both_true (is_between 1 32 (length text)) (list_all is_name_byte text) e).0 in
    record { some_byte = w.0; at_most_32 = w.1 }

parts_count : (text : List ℕ) → length (parts_of text) ≡ count_by (λ byte. byte == slash) text + 1
parts_count text = length-slice_split (λ byte. byte == slash) text

-- a text with few slashes is a path where its parts are parts
pub is_path-few : (text : List ℕ) → count_by (λ byte. byte == slash) text < 8 → list_all is_part (parts_of text) ≡ is_path text
unfolding is_path
is_path-few text few = let count = parts_count text in rw (le-leb (length (parts_of text)) 8 (omega arith)) refl

pub is_path-many : (text : List ℕ) → 8 ≤ count_by (λ byte. byte == slash) text → is_path text ≡ false
unfolding is_path
is_path-many text many =
    let count = parts_count text in
    rw (not_true (nat_le (length (parts_of text)) 8) (λ e. let few = leb-true (length (parts_of text)) 8 e in absurd (omega arith))) refl

-- joined parts are at most 33 bytes each, but for one slash
joined_sized : (parts : List (List ℕ)) → list_all is_part parts ≡ true → length (join_with_byte slash parts) ≤ 33 * length parts - 1
joined_sized [] e = omega arith
joined_sized (part ∷ []) e = let sized = part_sized part (both_true (is_part part) true e).0 in omega arith
joined_sized (part ∷ next ∷ parts) e =
    let each = both_true (is_part part) (list_all is_part (next ∷ parts)) e in
    let sized = part_sized part each.0 in
    let rest = joined_sized (next ∷ parts) each.1 in
    omega (arith, length-append part (slash ∷ join_with_byte slash (next ∷ parts)))

pub path_sized : (text : List ℕ) → is_path text ≡ true → length text ≤ 263
unfolding is_path
path_sized text e =
    let both = both_true (nat_le (length (parts_of text)) 8) (list_all is_part (parts_of text)) e in
    let few = leb-true (length (parts_of text)) 8 both.0 in
    let sized = joined_sized (parts_of text) both.1 in
    let same : length (join_with_byte slash (parts_of text)) ≡ length text = ap length (join_with_byte-slice_split slash text) in
    omega arith

pub is_path-long : (text : List ℕ) → 263 < length text → is_path text ≡ false
is_path-long text long = not_true (is_path text) (λ e. let sized = path_sized text e in absurd (omega arith))
