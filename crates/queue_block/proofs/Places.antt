-- The item at a place, and why none is there.
use Rattle.std.proofs.Common.{◌≡◌, ℕ, ◌+◌, ◌-◌, ◌^◌, ◌<◌, ◌≤◌, List, ◌++◌, length, take, drop, sym, ap, ◌∙◌, length-append, arith, Some, None, Option, Result, Ok, Err}
use Rattle.std.specs.Int.{w32, to_be_bytes}
use Rattle.std.proofs.lemmas.List.{length-drop, length-take-le, take-append-drop, drop-drop}
use Rattle.far_words.specs.declared.stamp.Unfit.{Unfit}
use Rattle.queue_block.specs.Items.{item_bytes, item_size, BeginsAt, NoItemAt, ReadsAt, IsItem}
use Rattle.queue_block.proofs.Spelling.{length-item_bytes, count_of, parted, same_count, item_one}

module _ (bytes : List ℕ) (at : ℕ) where
  -- as many bytes as are left from the place on
  left : (item : List ℕ) → BeginsAt bytes at item → item_size item ≤ length bytes - at
  left item begins =
      omega (arith, length-drop at bytes, ap length begins.parts, length-append (item_bytes item) begins.rest, length-item_bytes item)

  -- too few for a count
  pub no_count : length bytes - at < 4 → NoItemAt bytes at
  no_count few item begins = omega (arith, left item begins)

  module _ (n : ℕ) (count : take 4 (drop at bytes) ≡ to_be_bytes w32 n) (fits : n < 2 ^ 32) where
    abbrev text : List ℕ
    text = drop (at + 4) bytes

    behind : drop 4 (drop at bytes) ≡ drop (at + 4) bytes
    behind = drop-drop 4 at bytes

    -- too few for so many bytes
    pub no_text : length bytes - at - 4 < n → NoItemAt bytes at
    no_text few item begins =
        let counts : length item ≡ n = same_count (length item) n begins.fits fits (sym (count_of item begins.rest) ∙ ap (take 4) (sym begins.parts) ∙ count) in
        omega (arith, left item begins, counts)

    -- and so many bytes
    pub begins_at : at + 4 + n ≤ length bytes → BeginsAt bytes at (take n (drop (at + 4) bytes))
    begins_at within =
        let long : length (take n text) ≡ n = length-take-le n text (omega (arith, length-drop (at + 4) bytes)) in
        record {
          rest = drop n text;
          fits = omega (arith, long, fits);
          parts =
              sym (take-append-drop 4 (drop at bytes))
              ∙ (λ i. count i ++ behind i)
              ∙ ap (λ (t : List ℕ). to_be_bytes w32 n ++ t) (sym (take-append-drop n text))
              ∙ ap (λ (k : ℕ). to_be_bytes w32 k ++ (take n text ++ drop n text)) (sym long)
              ∙ parted (take n text) (drop n text);
        }

-- one reading
pub only_read : {X : Type 0} (item_of : X → List ℕ) (bytes : List ℕ) (at : ℕ) (result : Result (Option X) Unfit) → ReadsAt item_of bytes at result
    → (item : List ℕ) → BeginsAt bytes at item → IsItem item_of item result
only_read item_of bytes at (Ok None) end item begins =
    absurd (omega (arith, end, length-drop at bytes, ap length begins.parts, length-append (item_bytes item) begins.rest, length-item_bytes item))
only_read item_of bytes at (Ok (Some x)) reads item begins =
    (item_one (item_of x) item reads.rest begins.rest reads.fits begins.fits (sym reads.parts ∙ begins.parts)).0
only_read item_of bytes at (Err unfit) none item begins = none.2 item begins
