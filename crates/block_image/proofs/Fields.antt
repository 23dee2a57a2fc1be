-- An image as its fields one after the other: one spelling, and one reading.
use Rattle.std.proofs.Common.{◌≡◌, ℕ, ◌+◌, ◌^◌, ◌<◌, ◌≤◌, List, [], ◌∷◌, ◌++◌, length, take, drop, refl, sym, ◌∙◌, ap, take-add, take-append-drop, drop-cons, subst, arith}
use Rattle.std.specs.Prelude.{slice_range, slice_index}
use Rattle.std.specs.Int.{w32, w64, to_be_bytes, from_be_bytes}
use Rattle.std.proofs.lemmas.Nat.{from_be_bytes-to_be_bytes_4, from_be_bytes-to_be_bytes_8}
use Rattle.std.proofs.lemmas.List.{length-drop}
use Rattle.std.proofs.Math.Seq.{take-append_seam, drop-append_seam}
use Rattle.far_words.specs.declared.stamp.Stamp.{Stamp}
use Rattle.block_image.specs.Images.{magic_bytes, IsStampOf, IsImage}

-- the fields of an image, in order
abbrev pub spelling : ℕ → ℕ → ℕ → List ℕ → List ℕ → List ℕ
spelling user block count digest content =
    (((((magic_bytes ++ 1 ∷ []) ++ to_be_bytes w32 user) ++ to_be_bytes w64 block) ++ to_be_bytes w32 count) ++ digest) ++ content

slice_one : (bytes : List ℕ) → 4 < length bytes → slice_range bytes 4 5 ≡ slice_index bytes 4 ∷ []
slice_one bytes l = ap (take 1) (drop-cons bytes 4 0 l)

-- any bytes, part by part
parted : (bytes : List ℕ) → bytes ≡ (((((slice_range bytes 0 4 ++ slice_range bytes 4 5) ++ slice_range bytes 5 9) ++ slice_range bytes 9 17) ++ slice_range bytes 17 21) ++ slice_range bytes 21 53) ++ drop 53 bytes
parted bytes =
    sym (take-append-drop 53 bytes)
    ∙ ap (λ front. front ++ drop 53 bytes) (take-add 21 32 bytes
    ∙ ap (λ front. front ++ slice_range bytes 21 53) (take-add 17 4 bytes
    ∙ ap (λ front. front ++ slice_range bytes 17 21) (take-add 9 8 bytes
    ∙ ap (λ front. front ++ slice_range bytes 9 17) (take-add 5 4 bytes
    ∙ ap (λ front. front ++ slice_range bytes 5 9) (take-add 4 1 bytes)))))

module _ (image : List ℕ) (stamp : Stamp) (content : List ℕ) (is : IsImage image stamp content) where
  pub length_image : length image ≡ 53 + length content
  length_image = omega (arith, ap length is.rest, length-drop 53 image, is.some)

  pub spelled : image ≡ spelling stamp.user stamp.block stamp.length stamp.digest content
  spelled =
      let version : slice_range image 4 5 ≡ 1 ∷ [] = slice_one image (omega (arith, length_image)) ∙ ap (λ v. v ∷ []) is.version in
      parted image ∙ (λ i. (((((is.magic i ++ version i) ++ is.user i) ++ is.block i) ++ is.count i) ++ is.digest i) ++ is.rest i)

-- a digest and what follows it
digest_front : (digest content : List ℕ) → length digest ≡ 32 → take 32 (digest ++ content) ≡ digest
digest_front digest content long = subst (λ (n : ℕ). take n (digest ++ content) ≡ digest) long (take-append_seam digest content)

digest_back : (digest content : List ℕ) → length digest ≡ 32 → drop 32 (digest ++ content) ≡ content
digest_back digest content long = subst (λ (n : ℕ). drop n (digest ++ content) ≡ content) long (drop-append_seam digest content)

-- the fields one after the other are an image
pub image_of : (stamp : Stamp) (content : List ℕ) → stamp.user < 2 ^ 32 → stamp.block < 2 ^ 64 → length stamp.digest ≡ 32
    → 1 ≤ length content → length content ≤ 65536 → IsStampOf stamp content
    → (image : List ℕ) → image ≡ spelling stamp.user stamp.block stamp.length stamp.digest content → IsImage image stamp content
image_of stamp content user_fits block_fits long some within stamped image spelled = record {
  magic = rw spelled refl;
  version = rw spelled refl;
  user = rw spelled refl;
  block = rw spelled refl;
  count = rw spelled refl;
  digest = rw spelled (digest_front stamp.digest content long);
  rest = rw spelled (digest_back stamp.digest content long);
  user_fits = user_fits;
  block_fits = block_fits;
  some = some;
  within = within;
  stamped = stamped;
}

pub same_word : (m n : ℕ) → m < 2 ^ 32 → n < 2 ^ 32 → to_be_bytes w32 m ≡ to_be_bytes w32 n → m ≡ n
same_word m n m_fits n_fits same = sym (from_be_bytes-to_be_bytes_4 m m_fits) ∙ ap (from_be_bytes w32) same ∙ from_be_bytes-to_be_bytes_4 n n_fits

same_long : (m n : ℕ) → m < 2 ^ 64 → n < 2 ^ 64 → to_be_bytes w64 m ≡ to_be_bytes w64 n → m ≡ n
same_long m n m_fits n_fits same = sym (from_be_bytes-to_be_bytes_8 m m_fits) ∙ ap (from_be_bytes w64) same ∙ from_be_bytes-to_be_bytes_8 n n_fits

-- bytes are the image of one content at most, and under one stamp
pub one_reading : (image : List ℕ) (stamp other : Stamp) (content more : List ℕ) → IsImage image stamp content → IsImage image other more
    → (stamp ≡ other) × (content ≡ more)
one_reading image stamp other content more is also =
    let same : content ≡ more = sym is.rest ∙ also.rest in
    let user = same_word stamp.user other.user is.user_fits also.user_fits (sym is.user ∙ also.user) in
    let block = same_long stamp.block other.block is.block_fits also.block_fits (sym is.block ∙ also.block) in
    let count : stamp.length ≡ other.length = is.stamped.counted ∙ ap length same ∙ sym also.stamped.counted in
    let digest : stamp.digest ≡ other.digest = sym is.digest ∙ also.digest in
    ((λ i. record { user = user i; block = block i; length = count i; digest = digest i }), same)

-- a content has one image at most under its stamp
pub one_spelling : (image other : List ℕ) (stamp : Stamp) (content : List ℕ) → IsImage image stamp content → IsImage other stamp content → image ≡ other
one_spelling image other stamp content is also = spelled image stamp content is ∙ sym (spelled other stamp content also)
