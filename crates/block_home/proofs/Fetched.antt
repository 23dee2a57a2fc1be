-- An image at the front of a buffer, and what is made of it.
use Rattle.std.proofs.Common.{◌≡◌, ℕ, ◌+◌, ◌-◌, ◌<◌, ◌≤◌, Bool, true, false, ◌&&◌, eqb, List, [], ◌++◌, append-nil, length, take, drop, IsTrue, Some, Option, Ok, Err, refl, sym, ap, subst, ◌∙◌, arith}
use Rattle.std.specs.Option.{unwrap_or}
use Rattle.std.specs.Str.{bytes_eq}
use Rattle.std.proofs.lemmas.Slice.Eq.{bytes_eq-Decides}
use Rattle.std.proofs.lemmas.Bool.{eqb-true}
use Rattle.std.proofs.lemmas.List.{drop-take, length-take, take_all, drop_all}
use Rattle.far_words.specs.declared.stamp.Stamp.{Stamp}
use Rattle.far_words.specs.declared.stamp.Found.{Found}
use Rattle.far_words.specs.declared.stamp.Found.TheVariants.{Absent as NothingFound, Longer as LongerFound}
use Rattle.block_image.specs.Images.{head, IsStampOf, IsImage, IsFoundInstead}
use Rattle.block_image.proofs.Fields.{length_image}
use Rattle.shelf_link.specs.Told.{Told, tells, Gives}
use Rattle.shelf_link.specs.declared.shelf.Got.TheVariants.{Absent, Bytes, Longer}
use Rattle.block_home.specs.Stored.{IsStored, content_in, Fetches}
use Rattle.block_home.specs.declared.end.HomeEnd.TheVariants.{StoreFault, Damaged}

-- the content of an image in a buffer
pub content_is : (image : List ℕ) (count : ℕ) (stamp : Stamp) (content : List ℕ) → count ≤ length image → IsImage (take count image) stamp content → content_in stamp.length image ≡ content
content_is image count stamp content within is =
    let whole = length_image (take count image) stamp content is in
    let counted = is.stamped.counted in
    let all : count ≡ head + stamp.length = omega (arith, whole, length-take_within image count within) in
    sym (drop-take head stamp.length image) ∙ ap (λ n. drop head (take n image)) (sym all) ∙ is.rest
  where
    length-take_within : (xs : List ℕ) (n : ℕ) → n ≤ length xs → length (take n xs) ≡ n
    length-take_within xs n l = omega (arith, length-take n xs)

-- a buffer that was lent as a slice and came back
pub buffer_is : (new items result : List ℕ) (len : ℕ) → length new ≡ len → length items ≡ len → result ≡ take len (new ++ drop (length new) items) → result ≡ new
buffer_is new items result len fits all is =
    let none : drop (length new) items ≡ [] = drop_all (length new) items (omega arith) in
    is ∙ ap (λ rest. take len (new ++ rest)) none ∙ ap (λ xs. take len xs) (append-nil new) ∙ take_all len new (omega arith)

pub content_of_buffer : (new items result : List ℕ) (len many : ℕ) → length new ≡ len → length items ≡ len → result ≡ take len (new ++ drop (length new) items)
    → take (53 + many - 53) (drop 53 result) ≡ content_in many new
content_of_buffer new items result len many fits all is =
    let same : 53 + many - 53 ≡ many = omega arith in
    ap (λ n. take n (drop 53 result)) same ∙ ap (λ b. take many (drop 53 b)) (buffer_is new items result len fits all is)

both : (a b : Bool) → (a && b) ≡ true → (a ≡ true) × (b ≡ true)
both true b e = (refl, e)
both false b e = cc

-- what a comparison of two stamps says
pub same_stamp : (a b : Stamp) → (eqb a.user b.user && (eqb a.block b.block && (eqb a.length b.length && bytes_eq a.digest b.digest))) ≡ true → a ≡ b
same_stamp a b e =
    let first = both (eqb a.user b.user) _ e in
    let second = both (eqb a.block b.block) _ first.1 in
    let third = both (eqb a.length b.length) _ second.1 in
    let user : a.user ≡ b.user = eqb-true a.user b.user first.0 in
    let number : a.block ≡ b.block = eqb-true a.block b.block second.0 in
    let many : a.length ≡ b.length = eqb-true a.length b.length third.0 in
    let digest : a.digest ≡ b.digest = (bytes_eq-Decides a.digest b.digest).0 third.1 in
    λ i. record { user = user i; block = number i; length = many i; digest = digest i }

same_bytes : (a b : List ℕ) → ◌≡◌ {A = Option (List ℕ)} (Some a) (Some b) → a ≡ b
same_bytes a b e = ap (λ (o : Option (List ℕ)). unwrap_or o a) e

module _ (told : Told) (block : ℕ) (kept : Stamp) (image : List ℕ) where
  -- what is stored where something else was given
  given : (count : ℕ) → Gives told block image (Bytes count) → (bytes : List ℕ) → IsTrue (tells told) → (s : IsStored told block kept bytes) → take count image ≡ s.image
  given count gives bytes t s = same_bytes (take count image) s.image (sym (gives.held t) ∙ s.there)

  pub fetches_ok : (count : ℕ) → Gives told block image (Bytes count) → count ≤ length image → IsImage (take count image) kept (drop head (take count image)) → Fetches told block kept image (Ok tt)
  fetches_ok count gives within is =
      let content : content_in kept.length image ≡ drop head (take count image) = content_is image count kept (drop head (take count image)) within is in
      record {
        stamped = subst (λ bytes. IsStampOf kept bytes) (sym content) is.stamped;
        stored = λ bytes t s. content ∙ ap (λ i. drop head i) (given count gives bytes t s) ∙ s.is.rest;
        void = λ v. let clash = gives.void v in cc;
        names = tt;
      }

  pub fetches_broken : (count : ℕ) (found : Found) → Gives told block image (Bytes count) → IsFoundInstead kept found → ((content : List ℕ) → IsImage (take count image) kept content → ⊥)
      → Fetches told block kept image (Err (Damaged kept found))
  fetches_broken count found gives instead never = record {
    stamped = tt;
    stored = λ bytes t s. never bytes (subst (λ i. IsImage i kept bytes) (sym (given count gives bytes t s)) s.is);
    void = λ v. refl;
    names = (refl, instead);
  }

  pub fetches_absent : Gives told block image Absent → Fetches told block kept image (Err (Damaged kept NothingFound))
  fetches_absent gives = record {
    stamped = tt;
    stored = λ bytes t s. let clash = sym (gives.held t) ∙ s.there in cc;
    void = λ v. refl;
    names = (refl, tt);
  }

  pub fetches_longer : (len : ℕ) → Gives told block image (Longer len) → length image < len → head + kept.length ≤ length image → Fetches told block kept image (Err (Damaged kept (LongerFound len)))
  fetches_longer len gives over room = record {
    stamped = tt;
    stored = λ bytes t s.
        let held = gives.held t in
        let same : s.image ≡ held.0 = same_bytes s.image held.0 (sym s.there ∙ held.1) in
        let many : length s.image ≡ len = ap (λ (i : List ℕ). length i) same ∙ held.2 in
        absurd (omega (arith, many, length_image s.image kept bytes s.is, s.is.stamped.counted));
    void = λ v. refl;
    names = (refl, tt);
  }

  pub fetches_fault : Fetches told block kept image (Err StoreFault)
  fetches_fault = record { stamped = tt; stored = λ bytes t s. tt; void = λ v. refl; names = tt }
