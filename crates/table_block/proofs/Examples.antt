-- The definitions compute: the format's slots, and a block of three records.
use Rattle.std.proofs.Common.{◌≡◌, List, [], ◌∷◌, refl, Some, None}
use Rattle.table_block.specs.Slots.{slot_of}
use Rattle.table_block.specs.Records.{Record, spelling, spelled, records_size}
use Rattle.table_block.specs.Spots.{spot_in}

empty_key : slot_of [] ≡ 453
unfolding slot_of
empty_key = refl

one_letter : slot_of (97 ∷ []) ≡ 300
unfolding slot_of
one_letter = refl

-- `foobar`
six_letters : slot_of (102 ∷ 111 ∷ 111 ∷ 98 ∷ 97 ∷ 114 ∷ []) ≡ 360
unfolding slot_of
six_letters = refl

-- `a` has `xyz`, the empty key nothing, and `bc` has `1`
three : List Record
three = (97 ∷ [], 120 ∷ 121 ∷ 122 ∷ []) ∷ ([], []) ∷ (98 ∷ 99 ∷ [], 49 ∷ []) ∷ []

three_bytes : spelled three ≡ 0 ∷ 1 ∷ 0 ∷ 3 ∷ 97 ∷ 120 ∷ 121 ∷ 122 ∷ 0 ∷ 0 ∷ 0 ∷ 0 ∷ 0 ∷ 2 ∷ 0 ∷ 1 ∷ 98 ∷ 99 ∷ 49 ∷ []
unfolding three spelling
three_bytes = refl

three_sized : records_size three ≡ 19
unfolding three
three_sized = refl

-- the key that stands behind another, and one that isn't there
last_found : spot_in 0 three (98 ∷ 99 ∷ []) ≡ Some (record { at = 12; value = 18; end = 19 })
unfolding three
last_found = refl

none_found : spot_in 0 three (98 ∷ []) ≡ None
unfolding three
none_found = refl
