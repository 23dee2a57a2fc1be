-- The bytes of items, and which items bytes are.
use Rattle.std.proofs.Common.{◌≡◌, ℕ, ◌+◌, ◌^◌, ◌<◌, ◌≤◌, List, [], ◌∷◌, ◌++◌, length, take, drop, get_or, refl, sym, ap, ◌∙◌, append_assoc, append-nil, length-append, arith}
use Rattle.std.specs.Prelude.{All}
use Rattle.std.specs.Int.{w32, from_be_bytes, to_be_bytes}
use Rattle.std.proofs.lemmas.List.{take_at, drop_at, take-append-drop, drop_more, take_more}
use Rattle.std.proofs.lemmas.List.Elements.{All-head, All-tail, All-get_or}
use Rattle.std.proofs.lemmas.Nat.{from_be_bytes-to_be_bytes_4}
use Rattle.queue_block.specs.Items.{Fits, item_bytes, item_size, items_bytes, BeginsAt}

pub length-item_bytes : (item : List ℕ) → length (item_bytes item) ≡ item_size item
unfolding item_bytes
length-item_bytes item = omega arith

pub items_bytes-append : (xs ys : List (List ℕ)) → items_bytes (xs ++ ys) ≡ items_bytes xs ++ items_bytes ys
items_bytes-append [] ys = refl
items_bytes-append (x ∷ xs) ys =
    ap (λ (rest : List ℕ). item_bytes x ++ rest) (items_bytes-append xs ys)
    ∙ sym (append_assoc (item_bytes x) (items_bytes xs) (items_bytes ys))

-- one item more
pub items_bytes-push : (xs : List (List ℕ)) (x : List ℕ) → items_bytes (xs ++ x ∷ []) ≡ items_bytes xs ++ item_bytes x
items_bytes-push xs x = items_bytes-append xs (x ∷ []) ∙ ap (λ (rest : List ℕ). items_bytes xs ++ rest) (append-nil (item_bytes x))

-- the parts of an item at the front
pub count_of : (item rest : List ℕ) → take 4 (item_bytes item ++ rest) ≡ to_be_bytes w32 (length item)
unfolding item_bytes
count_of item rest = refl

pub behind_count : (item rest : List ℕ) → drop 4 (item_bytes item ++ rest) ≡ item ++ rest
unfolding item_bytes
behind_count item rest = refl

pub parted : (item rest : List ℕ) → to_be_bytes w32 (length item) ++ (item ++ rest) ≡ item_bytes item ++ rest
unfolding item_bytes
parted item rest = refl

pub same_count : (m n : ℕ) → m < 2 ^ 32 → n < 2 ^ 32 → to_be_bytes w32 m ≡ to_be_bytes w32 n → m ≡ n
same_count m n low high same = sym (from_be_bytes-to_be_bytes_4 m low) ∙ ap (from_be_bytes w32) same ∙ from_be_bytes-to_be_bytes_4 n high

-- one item stands at the front of bytes
pub item_one : (x y a b : List ℕ) → Fits x → Fits y → item_bytes x ++ a ≡ item_bytes y ++ b → (x ≡ y) × (a ≡ b)
item_one x y a b fits also same = (
  sym (take_at x a (length x) refl) ∙ ap (take (length x)) texts ∙ take_at y b (length x) (sym counts),
  sym (drop_at x a (length x) refl) ∙ ap (drop (length x)) texts ∙ drop_at y b (length x) (sym counts),
)
  where
    counts : length x ≡ length y
    counts = same_count (length x) (length y) fits also (sym (count_of x a) ∙ ap (take 4) same ∙ count_of y b)

    texts : x ++ a ≡ y ++ b
    texts = sym (behind_count x a) ∙ ap (drop 4) same ∙ behind_count y b

-- an item is some bytes
no_end : (item rest : List ℕ) → [] ≡ item_bytes item ++ rest → ⊥
no_end item rest same =
    let none : 0 ≡ length (item_bytes item ++ rest) = ap length same in
    omega (arith, length-append (item_bytes item) rest, length-item_bytes item)

-- bytes are one list of items at most
pub one_reading : (xs ys : List (List ℕ)) → All Fits xs → All Fits ys → items_bytes xs ≡ items_bytes ys → xs ≡ ys
one_reading [] [] fit also same = refl
one_reading [] (y ∷ ys) fit also same = absurd (no_end y (items_bytes ys) same)
one_reading (x ∷ xs) [] fit also same = absurd (no_end x (items_bytes xs) (sym same))
one_reading (x ∷ xs) (y ∷ ys) fit also same =
    let one = item_one x y (items_bytes xs) (items_bytes ys) (All-head Fits x xs fit) (All-head Fits y ys also) same in
    let more = one_reading xs ys (All-tail Fits x xs fit) (All-tail Fits y ys also) one.1 in
    (λ i. one.0 i ∷ more i)

-- each item begins behind those before it
pub begins_behind : (items : List (List ℕ)) (n : ℕ) → n < length items → All Fits items
    → BeginsAt (items_bytes items) (length (items_bytes (take n items))) (get_or items n [])
begins_behind items n inside fit = record {
  rest = items_bytes (drop (n + 1) items);
  fits = All-get_or Fits items n [] inside fit;
  parts =
      ap (drop (length (items_bytes (take n items)))) (ap items_bytes (sym (take-append-drop n items)) ∙ items_bytes-append (take n items) (drop n items))
      ∙ drop_at (items_bytes (take n items)) (items_bytes (drop n items)) (length (items_bytes (take n items))) refl
      ∙ ap items_bytes (drop_more items n [] inside);
}

-- and ends where the next one begins
pub place_more : (items : List (List ℕ)) (n : ℕ) → n < length items
    → length (items_bytes (take (n + 1) items)) ≡ length (items_bytes (take n items)) + item_size (get_or items n [])
place_more items n inside =
    ap (λ (xs : List (List ℕ)). length (items_bytes xs)) (take_more items n [] inside)
    ∙ ap length (items_bytes-push (take n items) (get_or items n []))
    ∙ length-append (items_bytes (take n items)) (item_bytes (get_or items n []))
    ∙ ap (λ (k : ℕ). length (items_bytes (take n items)) + k) (length-item_bytes (get_or items n []))

-- no place is past the end
pub place_within : (items : List (List ℕ)) (n : ℕ) → length (items_bytes (take n items)) ≤ length (items_bytes items)
place_within items n =
    omega (arith, ap length (ap items_bytes (sym (take-append-drop n items)) ∙ items_bytes-append (take n items) (drop n items)), length-append (items_bytes (take n items)) (items_bytes (drop n items)))
