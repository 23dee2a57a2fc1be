-- Laws of a path's parent, and of parts that are joined.
use Rattle.std.proofs.Common.{◌≡◌, ◌≢◌, ℕ, ◌<◌, ◌≤◌, ◌+◌, ◌==◌, nat_le, true, false, ◌&&◌, cond, List, [], ◌∷◌, ◌++◌, length, length-append, take, drop, slice_index, refl, sym, ap, subst, ◌∙◌, arith, Some, None}
use Rattle.std.proofs.lemmas.Bool.{leb-true, le-leb}
use Rattle.std.proofs.lemmas.List.Folds.{list_all-append}
use Rattle.std.proofs.lemmas.List.Splits.{slice_split_at, slice_split_none, join_with_byte-slice_split, length-slice_split}
use Rattle.std.proofs.lemmas.List.{take-append-drop}
use Rattle.std.proofs.lemmas.List.Elements.{All-nil, All-cons}
use Rattle.std.proofs.lemmas.Bool.{eqb-true}
use Rattle.std.proofs.Math.Seq.{drop-cons, take-append_seam}
use Rattle.std.proofs.Common.{add-one, suc}
use Rattle.std.specs.List.{All, list_all, onto_first, join_with_byte}
use Rattle.far_words.specs.Paths.{is_between, is_name_byte, IsJoined, is_part, is_path, slash, parts_of, joined_parent, parent_of}
use Rattle.far_words.proofs.Grammar.{both_true, not_true}

abbrev NoSlash : List ℕ → Type 0
NoSlash text = All (λ byte. (byte == slash) ≡ false) text

pub record IsLastSlash (text : List ℕ) (at : ℕ) : Type 0 where
  pub below : at < length text
  pub here : slice_index text at ≡ slash
  pub none_after : NoSlash (drop (at + 1) text)

onto_first-append : (x : ℕ) (parts : List (List ℕ)) (part : List ℕ) → parts ≢ [] → onto_first x (parts ++ part ∷ []) ≡ onto_first x parts ++ part ∷ []
onto_first-append x [] part some = absurd (some refl)
onto_first-append x (p ∷ parts) part some = refl

some_onto_first : (x : ℕ) (parts : List (List ℕ)) → onto_first x parts ≢ []
some_onto_first x [] e = cc
some_onto_first x (part ∷ parts) e = cc

some_part : (text : List ℕ) → parts_of text ≢ []
some_part [] e = cc
some_part (x ∷ text) e =
    elim (x == slash) as (λ b. cond b ([] ∷ parts_of text) (onto_first x (parts_of text)) ≢ []) [ true ↦ λ f. cc | false ↦ some_onto_first x (parts_of text) ] e

-- the last part of a text is what stands after its last slash
split_last : (front back : List ℕ) → NoSlash back → parts_of (front ++ slash ∷ back) ≡ parts_of front ++ back ∷ []
split_last [] back free = ap (λ parts. [] ∷ parts) (slice_split_none (λ byte. byte == slash) back free)
split_last (x ∷ front) back free =
    let rest = split_last front back free in
    elim (x == slash) as (λ b. cond b ([] ∷ parts_of (front ++ slash ∷ back)) (onto_first x (parts_of (front ++ slash ∷ back))) ≡ cond b ([] ∷ parts_of front) (onto_first x (parts_of front)) ++ back ∷ []) [
      | true ↦ ap (λ parts. [] ∷ parts) rest
      | false ↦ ap (onto_first x) rest ∙ onto_first-append x (parts_of front) back (some_part front)
    ]

joined_parent-push : (parts : List (List ℕ)) (part : List ℕ) → parts ≢ [] → joined_parent (parts ++ part ∷ []) ≡ Some (join_with_byte slash parts)
joined_parent-push [] part some = absurd (some refl)
joined_parent-push (p ∷ []) part some = refl
joined_parent-push (p ∷ q ∷ parts) part some =
    let count : length (parts ++ part ∷ []) + 1 ≡ length (p ∷ q ∷ parts) = omega (arith, length-append parts (part ∷ [])) in
    ap (λ (front : List (List ℕ)). Some (join_with_byte slash front)) (ap (λ n. take n (p ∷ q ∷ (parts ++ part ∷ []))) count ∙ take-append_seam (p ∷ q ∷ parts) (part ∷ []))

-- a text is what stands before its last slash, the slash, and what stands after it
around : (text : List ℕ) (at : ℕ) → IsLastSlash text at → text ≡ take at text ++ slash ∷ drop (at + 1) text
around text at last =
    sym (take-append-drop at text)
    ∙ ap (λ back. take at text ++ back) (drop-cons text at 0 last.below ∙ ap (λ (byte : ℕ). byte ∷ drop (suc at) text) last.here ∙ ap (λ n. slash ∷ drop n text) (sym (add-one at)))

split_around : (text : List ℕ) (at : ℕ) → IsLastSlash text at → parts_of text ≡ parts_of (take at text) ++ drop (at + 1) text ∷ []
split_around text at last = ap parts_of (around text at last) ∙ split_last (take at text) (drop (at + 1) text) last.none_after

-- the parent of a text is what stands before its last slash
pub parent_of-last_slash : (text : List ℕ) (at : ℕ) → IsLastSlash text at → parent_of text ≡ Some (take at text)
parent_of-last_slash text at last =
    ap joined_parent (split_around text at last)
    ∙ joined_parent-push (parts_of (take at text)) (drop (at + 1) text) (some_part (take at text))
    ∙ ap Some (join_with_byte-slice_split slash (take at text))

-- and it is a path where the text is one
pub is_path-last_slash : (text : List ℕ) (at : ℕ) → IsLastSlash text at → is_path text ≡ true → is_path (take at text) ≡ true
unfolding is_path
is_path-last_slash text at last e =
    let parts = parts_of (take at text) in
    let split = split_around text at last in
    let both = both_true (nat_le (length (parts_of text)) 8) (list_all is_part (parts_of text)) e in
    let few = leb-true (length (parts_of text)) 8 both.0 in
    let count : length (parts_of text) ≡ length parts + 1 = ap length split ∙ length-append parts (drop (at + 1) text ∷ []) in
    let each : (list_all is_part parts && list_all is_part (drop (at + 1) text ∷ [])) ≡ true = sym (list_all-append is_part parts (drop (at + 1) text ∷ [])) ∙ sym (ap (list_all is_part) split) ∙ both.1 in
    rw (le-leb (length parts) 8 (omega arith), (both_true (list_all is_part parts) (list_all is_part (drop (at + 1) text ∷ [])) each).0) refl

pub parent_of-no_slash : (text : List ℕ) → NoSlash text → parent_of text ≡ None
parent_of-no_slash text free = ap joined_parent (slice_split_none (λ byte. byte == slash) text free)

slash_is_no_name_byte : (byte : ℕ) → is_name_byte byte ≡ true → (byte == slash) ≡ false
slash_is_no_name_byte byte e = not_true (byte == slash) (λ is. let named : is_name_byte slash ≡ true = subst (λ (b : ℕ). is_name_byte b ≡ true) (eqb-true byte slash is) e in cc)

name_bytes-NoSlash : (text : List ℕ) → list_all is_name_byte text ≡ true → NoSlash text
name_bytes-NoSlash [] e = All-nil (λ byte. (byte == slash) ≡ false)
name_bytes-NoSlash (x ∷ text) e =
    let both = both_true (is_name_byte x) (list_all is_name_byte text) e in
    All-cons (λ byte. (byte == slash) ≡ false) x text (slash_is_no_name_byte x both.0) (name_bytes-NoSlash text both.1)

part-NoSlash : (part : List ℕ) → is_part part ≡ true → NoSlash part
unfolding is_part
part-NoSlash part e = name_bytes-NoSlash part (both_true (is_between 1 32 (length part)) (list_all is_name_byte part) e).1

-- parts that are joined by slashes are split again at them
parts_of-joined : (parts : List (List ℕ)) → 1 ≤ length parts → list_all is_part parts ≡ true → parts_of (join_with_byte slash parts) ≡ parts
parts_of-joined [] some e = absurd (omega arith)
parts_of-joined (part ∷ []) some e = slice_split_none (λ byte. byte == slash) part (part-NoSlash part (both_true (is_part part) true e).0)
parts_of-joined (part ∷ next ∷ parts) some e =
    let both = both_true (is_part part) (list_all is_part (next ∷ parts)) e in
    slice_split_at (λ byte. byte == slash) part slash (join_with_byte slash (next ∷ parts)) (part-NoSlash part both.0) refl
    ∙ ap (λ rest. part ∷ rest) (parts_of-joined (next ∷ parts) (omega arith) both.1)

-- a text is a path exactly where it is 1 to 8 parts that are joined by slashes
pub joined-is_path : (text : List ℕ) (parts : List (List ℕ)) → IsJoined text parts → is_path text ≡ true
unfolding is_path
joined-is_path text parts j =
    let split : parts_of text ≡ parts = ap parts_of j.joined ∙ parts_of-joined parts j.some_part j.each in
    rw (split, le-leb (length parts) 8 j.at_most_8, j.each) refl

pub is_path-joined : (text : List ℕ) → is_path text ≡ true → IsJoined text (parts_of text)
unfolding is_path
is_path-joined text e =
    let both = both_true (nat_le (length (parts_of text)) 8) (list_all is_part (parts_of text)) e in
    record {
      joined = sym (join_with_byte-slice_split slash text);
      some_part = omega (arith, length-slice_split (λ byte. byte == slash) text);
      at_most_8 = leb-true (length (parts_of text)) 8 both.0;
      each = both.1;
    }
