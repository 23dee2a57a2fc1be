-- Names under a part aren't listed, up to the end of them.
use Rattle.std.proofs.Common.{◌≡◌, ℕ, ◌+◌, ◌<◌, ◌≤◌, nat_eq, true, false, ◌&&◌, cond, List, [], ◌∷◌, ◌++◌, length, take, drop, slice_index, refl, sym, ap, ◌∙◌, append_assoc, arith, Some, None}
use Rattle.std.specs.declared.cmp.Ordering.TheVariants.{Less, Equal, Greater}
use Rattle.std.specs.Ordering.{is_lt, ordering_reverse}
use Rattle.std.specs.List.{list_all}
use Rattle.std.specs.Cmp.{tied_itself}
use Rattle.std.specs.Cmp.Lexicographic.{nat_list_cmp_total}
use Rattle.std.proofs.lemmas.List.{take-append-drop, take-take}
use Rattle.std.proofs.lemmas.List.Folds.{list_all-append}
use Rattle.std.proofs.Math.Seq.{drop-cons, drop-append_seam, take-append_seam}
use Rattle.std.proofs.Common.{add-one, suc}
use Rattle.far_words.specs.Paths.{bytes_cmp, is_part, is_name_byte, is_between, slash}
use Rattle.lease_tree.specs.Under.{is_after, stem}
use Rattle.lease_tree.specs.Trees.{begins_with, part_after}
use Rattle.lease_tree.specs.Lists.{IsPassed}
use Rattle.lease_tree.proofs.Found.{and_false}
use Rattle.lease_tree.proofs.Puts.{same_name, less_back}
use Rattle.lease_tree.proofs.Lasts.{is_less}
use Rattle.lease_tree.proofs.Listing.{up_to}
use Rattle.lease_tree.proofs.Texts.{begins, begins-rest, sandwich, not_after}

not_below : (name later : List ℕ) → is_after name later ≡ true → bytes_cmp later name ≡ Less → ⊥
not_below name later after less = let no : Greater ≡ Less = sym (less_back later name less) ∙ is_less (bytes_cmp name later) after in cc

-- a text with a slash is no part
slash_no_part : (front back : List ℕ) → is_part (front ++ slash ∷ back) ≡ false
unfolding is_part
slash_no_part front back =
    ap (λ b. is_between 1 32 (length (front ++ slash ∷ back)) && b) (list_all-append is_name_byte front (slash ∷ back) ∙ and_false (list_all is_name_byte front))
    ∙ and_false (is_between 1 32 (length (front ++ slash ∷ back)))

-- the text itself begins with its own front
begins-append : (front back : List ℕ) → begins (front ++ back) front ≡ true
begins-append [] back = refl
begins-append (x ∷ front) back = ap (λ b. b && begins (front ++ back) front) (let one : nat_eq x x ≡ true = grind (arith) in one) ∙ begins-append front back

-- a name from one that begins with a text on, up to the end of those, begins with it
between_begins : (front more later : List ℕ) → (bytes_cmp later (front ++ more) ≡ Less → ⊥) → is_after (front ++ 255 ∷ []) later ≡ false → begins later front ≡ true
between_begins front more later onward late =
    let low : bytes_cmp front later ≡ Greater → ⊥ = λ greater.
    let back : bytes_cmp later front ≡ Less = nat_list_cmp_total.antisymm later front ∙ ap ordering_reverse greater in
    elim (bytes_cmp front (front ++ more)) as (λ o. bytes_cmp front (front ++ more) ≡ o → ⊥) [
      | Less ↦ λ e. onward (nat_list_cmp_total.trans later front (front ++ more) back e)
      | Equal ↦ λ e. onward (ap (bytes_cmp later) (sym (same_name front (front ++ more) e)) ∙ back)
      | Greater ↦ λ e. not_after front more e
    ] refl in
    elim (bytes_cmp later (front ++ 255 ∷ [])) as (λ o. bytes_cmp later (front ++ 255 ∷ []) ≡ o → begins later front ≡ true) [
      | Less ↦ λ e. sandwich front later (255 ∷ []) low e
      | Equal ↦ λ e. ap (λ (n : List ℕ). begins n front) (same_name later (front ++ 255 ∷ []) e) ∙ begins-append front (255 ∷ [])
      | Greater ↦ λ e. absurd (up_to (front ++ 255 ∷ []) later late e)
    ] refl

-- what begins with a base, more and a slash has no part there
no_part : (base more rest : List ℕ) → part_after base (base ++ (more ++ slash ∷ rest)) ≡ None
no_part base more rest =
    let name = base ++ (more ++ slash ∷ rest) in
    let dropped : drop (length base) name ≡ more ++ slash ∷ rest = drop-append_seam base (more ++ slash ∷ rest) in
    ap (λ b. cond (begins_with base name && b) (Some (drop (length base) name)) None) (ap is_part dropped ∙ slash_no_part more rest)
    ∙ ap (λ b. cond b (Some (drop (length base) name)) None) (and_false (begins_with base name))

-- so up to the end of the names under its next part none is listed
pub passed_under : (base name : List ℕ) (at : ℕ) → begins_with base name ≡ true → length base ≤ at → at < length name → slice_index name at ≡ slash → IsPassed base name (take at name ++ slash ∷ 255 ∷ [])
passed_under base name at inside from below here later after late =
    let front = take at name in
    let more = drop (at + 1) name in
    let parted : name ≡ stem front ++ more =
    sym (take-append-drop at name)
    ∙ ap (λ back. front ++ back) (drop-cons name at 0 below ∙ ap (λ (byte : ℕ). byte ∷ drop (suc at) name) here ∙ ap (λ n. slash ∷ drop n name) (sym (add-one at)))
    ∙ sym (append_assoc front (slash ∷ []) more) in
    let begun = between_begins (stem front) more later (λ less. not_below name later after (ap (bytes_cmp later) parted ∙ less))
    (ap (λ (t : List ℕ). is_after t later) (append_assoc front (slash ∷ []) (255 ∷ [])) ∙ late) in
    let rest = drop (length (stem front)) later in
    let is : later ≡ front ++ slash ∷ rest = begins-rest (stem front) later begun ∙ append_assoc front (slash ∷ []) rest in
    -- the base is a beginning of the front
    let middle = drop (length base) front in
    let based : front ≡ base ++ middle =
    let whole = begins-rest base name inside in
    sym (take-append-drop (length base) front)
    ∙ ap (λ (l : List ℕ). l ++ middle) (take-take (length base) at name from ∙ ap (take (length base)) whole ∙ take-append_seam base (drop (length base) name)) in
    ap (part_after base) (is ∙ ap (λ (l : List ℕ). l ++ slash ∷ rest) based ∙ append_assoc base middle (slash ∷ rest)) ∙ no_part base middle rest

-- after a name up to the name itself there is none
pub passed_alone : (base name : List ℕ) → IsPassed base name name
passed_alone base name later after late = absurd (let no : true ≡ false = sym after ∙ late in cc)

-- where a text isn't before a name
pub not_past : (text name : List ℕ) → (bytes_cmp text name ≡ Less → ⊥) → is_after text name ≡ false
not_past text name not_less =
    elim (bytes_cmp text name) as (λ o. bytes_cmp text name ≡ o → is_lt o ≡ false) [
      | Less ↦ λ less. absurd (not_less less)
      | Equal ↦ λ _. refl
      | Greater ↦ λ _. refl
    ] refl

pub not_past_itself : (name : List ℕ) → is_after name name ≡ false
not_past_itself name = ap is_lt (tied_itself nat_list_cmp_total name)
