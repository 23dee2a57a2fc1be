-- Items that are read word by word.
use Rattle.std.proofs.Common.{◌≡◌, ◌≢◌, ℕ, ◌+◌, ◌<◌, ◌≤◌, List, [], ◌∷◌, ◌++◌, length, map, take, drop, get_or, set, refl, sym, ◌∙◌, ap, append_assoc, append-nil, arith}
use Rattle.std.specs.Prelude.{All}
use Rattle.std.proofs.lemmas.List.{drop_more, drop_all, map_push, length_push, take_all, take_more, take_more_set}
use Rattle.std.proofs.lemmas.List.Elements.{All-push, All-get_or, All-nil}
use Rattle.quantum_text.specs.Spelled.{Spells}

module _ {X : Type 0} (word : X → List ℕ) (Within : X → Type 0) where
  -- the words before `rest` are those of i items
  pub record Seen (i : ℕ) (words rest : List (List ℕ)) : Type 0 where
    pub found : List X
    pub within : All Within found
    pub long : length found ≡ i
    pub whole : words ≡ map word found ++ rest

  -- whatever items the words are, `rest` has those from i on
  abbrev pub Due : ℕ → ℕ → List (List ℕ) → List (List ℕ) → Type 0
  Due count i words rest = (items : List X) → Spells word Within count words items → rest ≡ map word (drop i items)

  unfoldable pub seen_none : (words : List (List ℕ)) → Seen 0 words words
  seen_none words = record { found = []; within = All-nil Within; long = refl; whole = refl }

  unfoldable pub seen_more : (i : ℕ) (words rest others : List (List ℕ)) (item : X) → Seen i words rest → rest ≡ word item ∷ others → Within item → Seen (i + 1) words others
  seen_more i words rest others item seen next within = record {
    found = seen.found ++ item ∷ [];
    within = All-push Within seen.found item seen.within within;
    long = length_push seen.found item ∙ ap (λ n. n + 1) seen.long;
    whole = seen.whole ∙ ap (λ t. map word seen.found ++ t) next ∙ sym (append_assoc (map word seen.found) (word item ∷ []) others)
        ∙ ap (λ t. t ++ others) (sym (map_push word seen.found item));
  }

  pub seen_all : (count i : ℕ) (words rest : List (List ℕ)) → Seen i words rest → rest ≡ [] → i ≡ count → (items : List X) × Spells word Within count words items
  seen_all count i words rest seen none end = (
    seen.found,
    record {
      spelled = seen.whole ∙ ap (λ t. map word seen.found ++ t) none ∙ append-nil (map word seen.found);
      many = seen.long ∙ end;
      within = seen.within;
    },
  )

  pub due_next : (d : X) (count i : ℕ) (words rest : List (List ℕ)) → Due count i words rest → i < count → (items : List X) → Spells word Within count words items
      → rest ≡ word (get_or items i d) ∷ map word (drop (i + 1) items)
  due_next d count i words rest due more items are = due items are ∙ ap (map word) (drop_more items i d (omega (arith, are.many)))

  pub due_within : (d : X) (count i : ℕ) (words : List (List ℕ)) → i < count → (items : List X) → Spells word Within count words items → Within (get_or items i d)
  due_within d count i words more items are = All-get_or Within items i d (omega (arith, are.many)) are.within

  -- where the next word is no item's, there are no such items
  pub due_nothing : (d : X) (count i : ℕ) (words rest : List (List ℕ)) → Due count i words rest → i < count
      → ((item : X) → Within item → (others : List (List ℕ)) → rest ≢ word item ∷ others) → (items : List X) → Spells word Within count words items → ⊥
  due_nothing d count i words rest due more nothing items are =
      nothing (get_or items i d) (due_within d count i words more items are) (map word (drop (i + 1) items)) (due_next d count i words rest due more items are)

  pub due_more : (d : X) (count i : ℕ) (words rest others : List (List ℕ)) (item : X) → Due count i words rest → i < count → rest ≡ word item ∷ others → Due count (i + 1) words others
  due_more d count i words rest others item due more next = λ items are. let known = due_next d count i words rest due more items are in cc

  pub due_end : (count i : ℕ) (words rest : List (List ℕ)) → Due count i words rest → count ≤ i → (items : List X) → Spells word Within count words items → rest ≡ []
  due_end count i words rest due end items are = due items are ∙ ap (map word) (drop_all i items (omega (arith, are.many)))

  -- the item that was read is the one that is due
  pub due_item : (d : X) (count i : ℕ) (words rest others : List (List ℕ)) (item : X) → ((x y : X) → Within x → Within y → word x ≡ word y → x ≡ y)
      → Due count i words rest → i < count → rest ≡ word item ∷ others → Within item → (items : List X) → Spells word Within count words items → item ≡ get_or items i d
  due_item d count i words rest others item one due more next within items are =
      let known = due_next d count i words rest due more items are in
      one item (get_or items i d) within (due_within d count i words more items are) (cc)

-- the items that were taken, with one more
pub taken_more : {X : Type 0} (d : X) (xs items : List X) (i : ℕ) (item : X) → i < length xs → i < length items → item ≡ get_or items i d → take i xs ≡ take i items
    → take (i + 1) (set xs i item) ≡ take (i + 1) items
taken_more d xs items i item here there same before =
    take_more_set xs i item here ∙ ap (λ t. t ++ item ∷ []) before ∙ ap (λ n. take i items ++ n ∷ []) same ∙ sym (take_more items i d there)

pub taken_all : {X : Type 0} (xs items : List X) (count i : ℕ) → length xs ≡ count → length items ≡ count → count ≤ i → take i xs ≡ take i items → xs ≡ items
taken_all xs items count i long many end same =
    sym (take_all i xs (omega arith)) ∙ same ∙ take_all i items (omega arith)
