-- How the steps of an append fit together.
use Rattle.std.proofs.Common.{◌≡◌, ◌≢◌, ℕ, ◌+◌, ◌-◌, ◌*◌, ◌<◌, ◌≤◌, List, ◌++◌, length, take, drop, min, sym, ap, ◌∙◌, inl, inr, arith}
use Rattle.std.specs.Prelude.{All}
use Rattle.std.specs.Int.{div_ceil}
use Rattle.std.proofs.lemmas.Bool.{cases_lt}
use Rattle.std.proofs.lemmas.List.{take_all, append_assoc, take-append-drop, length-drop, length-take}
use Rattle.shelf_link.specs.Blocks as map
use Rattle.shelf_link.specs.Told.{Told}
use Rattle.block_seats.specs.Seatings.{SeatingView}
use Rattle.block_file.specs.Files.{FileView, new_blocks}
use Rattle.block_file.specs.Growth.{IsGrown}
use Rattle.block_file.proofs.Pieces.{ceil_rest}

-- the bytes that the last block has no room for need just the new blocks
pub left_need : (size used filled : ℕ) (blocks bytes : List ℕ) → 0 < size → length blocks ≡ div_ceil used size → filled ≡ min (length bytes) (length blocks * size - used) → div_ceil (length (take (length bytes - filled) (drop filled bytes))) size ≡ new_blocks size used (length bytes)
left_need size used filled blocks bytes pos count filled_is =
    let left : length (take (length bytes - filled) (drop filled bytes)) ≡ length bytes - (length blocks * size - used) = omega (arith, length-take (length bytes - filled) (drop filled bytes), length-drop filled bytes) in
    ap (λ r. div_ceil r size) left ∙ ceil_rest (length blocks) used (length bytes) size pos count

-- where bytes are left for new blocks, the blocks that are there are full
pub filled_full : (count size used filled : ℕ) (bytes : List ℕ) → used ≤ count * size → filled ≡ min (length bytes) (count * size - used) → 0 < length (take (length bytes - filled) (drop filled bytes)) → used + filled ≡ count * size
filled_full count size used filled bytes above filled_is some =
    omega (arith, length-take (length bytes - filled) (drop filled bytes), length-drop filled bytes)

pub rest_long : (filled used : ℕ) (bytes : List ℕ) → filled ≤ length bytes → used + filled + length (take (length bytes - filled) (drop filled bytes)) ≡ used + length bytes
rest_long filled used bytes within = omega (arith, length-take (length bytes - filled) (drop filled bytes), length-drop filled bytes)

-- a file that grew once, and again
pub grown_then : (m : map.Blocks) (told told' : Told) (user : ℕ) (mid new : SeatingView) (file file' : FileView) (xs ys : List ℕ) → ((q : ℕ) → All (λ b. q ≢ b) file'.blocks → All (λ b. q ≢ b) file.blocks)
    → (first : IsGrown m told user mid file xs) → IsGrown first.now told' user new file' ys → IsGrown m told' user new file' ys
grown_then m told told' user mid new file file' xs ys front first second = record {
  now = second.now;
  held = second.held;
  is = second.is;
  keeps = record { others = λ q apart. second.keeps.others q apart ∙ first.keeps.others q (front q apart) };
}

-- what is left after a front
pub take_rest_of : (filled : ℕ) (bytes : List ℕ) → take (length bytes - filled) (drop filled bytes) ≡ drop filled bytes
take_rest_of filled bytes = take_all (length bytes - filled) (drop filled bytes) (omega (arith, length-drop filled bytes))

pub joined : (old bytes : List ℕ) (filled : ℕ) → (old ++ take filled bytes) ++ take (length bytes - filled) (drop filled bytes) ≡ old ++ bytes
joined old bytes filled =
    append_assoc old (take filled bytes) _
    ∙ ap (λ bs. old ++ bs) (ap (λ rest. take filled bytes ++ rest) (take_rest_of filled bytes) ∙ take-append-drop filled bytes)

-- to take as many as are there, and no more than asked for
pub take_count : (count most : ℕ) (xs : List ℕ) → count ≡ min (length xs) most → take count xs ≡ take most xs
take_count count most xs count_is =
    elim (cases_lt (length xs) most) [
      | inl fewer ↦ take_all count xs (omega arith) ∙ sym (take_all most xs (omega arith))
      | inr enough ↦ let same : count ≡ most = omega arith in ap (λ n. take n xs) same
    ]
