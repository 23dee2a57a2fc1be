-- What a store holds of blocks, and what it gives of one.
use Rattle.std.specs.Prelude.{◌≡◌, ℕ, List, take, drop, IsTrue, IsErr, OnOk, Some}
use Rattle.std.specs.declared.result.Result.{Result}
use Rattle.std.specs.declared.result.Result.TheVariants.{Ok, Err}
use Rattle.far_io.specs.Faults.{Faults, Follows, Rose}
use Rattle.far_words.specs.declared.stamp.Stamp.{Stamp}
use Rattle.block_image.specs.Images.{head, IsStampOf, IsImage, IsFoundInstead}
use Rattle.shelf_link.specs.Told.{Told, tells, under}
use Rattle.block_home.specs.declared.end.HomeEnd.{HomeEnd}
use Rattle.block_home.specs.declared.end.HomeEnd.TheVariants.{StoreFault, Damaged}

-- under a block stands the image of these bytes with this stamp
pub record IsStored (told : Told) (block : ℕ) (stamp : Stamp) (bytes : List ℕ) : Type 0 where
  pub image : List ℕ
  pub there : under told block ≡ Some image
  pub is : IsImage image stamp bytes

-- the content of an image at the front of a buffer
abbrev pub content_in : ℕ → List ℕ → List ℕ
content_in len image = take len (drop head image)

-- these bytes, or a cause that says nothing of what the store holds
abbrev pub IsRead : List ℕ → List ℕ → Result (Unit {0}) HomeEnd → Type 0
IsRead bytes content (Ok done) = content ≡ bytes
IsRead bytes content (Err (Damaged kept found)) = ⊥
IsRead bytes content (Err end) = Unit {0}

-- a Damaged names the stamp that was kept
abbrev pub NamesStamp : {T : Type 0} → Stamp → Result T HomeEnd → Type 0
NamesStamp stamp (Err (Damaged kept found)) = (kept ≡ stamp) × IsFoundInstead kept found
NamesStamp stamp result = Unit {0}

-- a call that reads the store fails for its sake alone
abbrev pub IsStoreEnd : HomeEnd → Type 0
IsStoreEnd StoreFault = Unit {0}
IsStoreEnd (Damaged kept found) = Unit {0}
IsStoreEnd end = ⊥

-- StoreFault comes only where the count rose
abbrev pub FaultRose : {T : Type 0} → Faults → Faults → Result T HomeEnd → Type 0
FaultRose before now (Err StoreFault) = Rose before now
FaultRose before now result = Unit {0}

pub record Causes {T : Type 0} (before now : Faults) (result : Result T HomeEnd) : Type 0 where
  pub follows : Follows before now
  pub rose : FaultRose before now result

-- what a store gives of a parked block, into a buffer
pub record Fetches (told : Told) (block : ℕ) (kept : Stamp) (image : List ℕ) (result : Result (Unit {0}) HomeEnd) : Type 0 where
  -- whatever the store tells, the content has the length and the digest of the stamp
  pub stamped : OnOk result (IsStampOf kept (content_in kept.length image))
  -- where it tells, the content is what was stored, and isn't found damaged
  pub stored : (bytes : List ℕ) → IsTrue (tells told) → IsStored told block kept bytes → IsRead bytes (content_in kept.length image) result
  pub void : IsTrue told.void → IsErr result
  pub names : NamesStamp kept result
