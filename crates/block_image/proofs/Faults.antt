-- Why bytes are no image.
use Rattle.std.proofs.Common.{◌≡◌, ◌≢◌, ℕ, Bool, true, false, not, refl, ◌-◌, List, length, sym, ◌∙◌, ap, arith}
use Rattle.std.specs.Str.{bytes_eq}
use Rattle.std.proofs.lemmas.Slice.Eq.{bytes_eq-Decides}
use Rattle.sha2.specs.Sha256.{sha256}
use Rattle.far_words.specs.declared.stamp.Stamp.{Stamp}
use Rattle.far_words.specs.declared.stamp.ImageFault.{ImageFault}
use Rattle.far_words.specs.declared.stamp.ImageFault.TheVariants.{Short, Magic, Version, Length, Digest}
use Rattle.block_image.specs.Images.{IsImage, IsFault}
use Rattle.block_image.proofs.Fields.{length_image, same_word}

-- nothing is wrong with an image
pub no_fault : (bytes content : List ℕ) (stamp : Stamp) (fault : ImageFault) → IsImage bytes stamp content → IsFault bytes fault → ⊥
no_fault bytes content stamp (Short have) is wrong = omega (arith, length_image bytes stamp content is, wrong.short)
no_fault bytes content stamp Magic is wrong = wrong.other is.magic
no_fault bytes content stamp (Version found) is wrong = wrong.other (wrong.found_is ∙ is.version)
no_fault bytes content stamp (Length said have) is wrong =
    let count : stamp.length ≡ length bytes - 53 = omega (arith, is.stamped.counted, length_image bytes stamp content is) in
    let same : said ≡ stamp.length =
    same_word said stamp.length wrong.said_fits (omega (arith, is.stamped.counted, is.within)) (sym wrong.said_is ∙ is.count) in
    wrong.bad (omega (arith, same, is.stamped.counted, is.some)) (omega (arith, same, is.stamped.counted, is.within)) (same ∙ count ∙ sym wrong.have_is)
no_fault bytes content stamp (Digest kept found) is wrong =
    wrong.other (wrong.kept_is ∙ is.digest ∙ is.stamped.digested ∙ ap sha256 (sym is.rest) ∙ sym wrong.found_is)

-- what a comparison of two lists of bytes says
pub differ : (xs ys : List ℕ) → true ≡ not (bytes_eq xs ys) → xs ≢ ys
differ xs ys is same = let wrong : true ≡ false = is ∙ ap not ((bytes_eq-Decides xs ys).1 same) in cc

pub agree : (xs ys : List ℕ) → false ≡ not (bytes_eq xs ys) → xs ≡ ys
agree xs ys is = (bytes_eq-Decides xs ys).0 (by (bytes_eq xs ys) is)
  where
    by : (b : Bool) → false ≡ not b → b ≡ true
    by true e = refl
    by false e = cc
