-- The image of a block, by the table of its format: which bytes have which content.
use Rattle.std.specs.Prelude.{◌≡◌, ◌≢◌, ℕ, ◌-◌, ◌^◌, ◌<◌, ◌≤◌, List, [], ◌∷◌, length, drop, slice_index, slice_range}
use Rattle.std.specs.Int.{w32, w64, to_be_bytes}
use Rattle.sha2.specs.Sha256.{sha256}
use Rattle.far_words.specs.declared.stamp.Stamp.{Stamp}
use Rattle.far_words.specs.declared.stamp.ImageFault.{ImageFault}
use Rattle.far_words.specs.declared.stamp.ImageFault.TheVariants.{Short, Magic, Version, Length, Digest}
use Rattle.far_words.specs.declared.stamp.Found.{Found}
use Rattle.far_words.specs.declared.stamp.Found.TheVariants.{Other}

-- how many bytes stand before the content, and how many the content has at most
abbrev pub head : ℕ
head = 53

abbrev pub most : ℕ
most = 65536

abbrev pub magic_bytes : List ℕ
magic_bytes = 0x46 ∷ 0x4d ∷ 0x42 ∷ 0x31 ∷ []

-- the stamp of a user's block with this content
abbrev pub stamp_for : ℕ → ℕ → List ℕ → Stamp
stamp_for user block content = record { user = user; block = block; length = length content; digest = sha256 content }

-- a stamp with the length and the digest of a content
pub record IsStampOf (stamp : Stamp) (content : List ℕ) : Type 0 where
  pub counted : stamp.length ≡ length content
  pub digested : stamp.digest ≡ sha256 content

-- bytes that are the image of a content under a stamp
pub record IsImage (image : List ℕ) (stamp : Stamp) (content : List ℕ) : Type 0 where
  pub magic : slice_range image 0 4 ≡ magic_bytes
  pub version : slice_index image 4 ≡ 1
  pub user : slice_range image 5 9 ≡ to_be_bytes w32 stamp.user
  pub block : slice_range image 9 17 ≡ to_be_bytes w64 stamp.block
  pub count : slice_range image 17 21 ≡ to_be_bytes w32 stamp.length
  pub digest : slice_range image 21 53 ≡ stamp.digest
  pub rest : drop 53 image ≡ content
  -- a user is a u32, a block a u64, and the content has 1 to 65,536 bytes
  pub user_fits : stamp.user < 2 ^ 32
  pub block_fits : stamp.block < 2 ^ 64
  pub some : 1 ≤ length content
  pub within : length content ≤ most
  pub stamped : IsStampOf stamp content

-- The first thing that is wrong with bytes: each kind comes only where nothing before it in this list does.

-- a length that an image with so many bytes after its head can't say
abbrev pub IsBadLength : ℕ → ℕ → Type 0
IsBadLength said have = (1 ≤ said) → said ≤ most → said ≢ have

pub record IsShort (bytes : List ℕ) (have : ℕ) : Type 0 where
  pub short : length bytes < head
  pub have_is : have ≡ length bytes

pub record HasOtherMagic (bytes : List ℕ) : Type 0 where
  pub long : head ≤ length bytes
  pub other : slice_range bytes 0 4 ≢ magic_bytes

pub record HasOtherVersion (bytes : List ℕ) (found : ℕ) : Type 0 where
  pub long : head ≤ length bytes
  pub magic : slice_range bytes 0 4 ≡ magic_bytes
  pub found_is : found ≡ slice_index bytes 4
  pub other : found ≢ 1

pub record HasOtherLength (bytes : List ℕ) (said have : ℕ) : Type 0 where
  pub long : head ≤ length bytes
  pub magic : slice_range bytes 0 4 ≡ magic_bytes
  pub version : slice_index bytes 4 ≡ 1
  pub said_is : slice_range bytes 17 21 ≡ to_be_bytes w32 said
  pub said_fits : said < 2 ^ 32
  pub have_is : have ≡ length bytes - head
  pub bad : IsBadLength said have

-- all that stands before the digest is well
pub record HasHead (bytes : List ℕ) : Type 0 where
  pub long : head ≤ length bytes
  pub magic : slice_range bytes 0 4 ≡ magic_bytes
  pub version : slice_index bytes 4 ≡ 1
  pub count : slice_range bytes 17 21 ≡ to_be_bytes w32 (length bytes - head)
  pub some : 1 ≤ length bytes - head
  pub within : length bytes - head ≤ most

pub record HasOtherDigest (bytes kept found : List ℕ) : Type 0 where
  pub well : HasHead bytes
  pub kept_is : kept ≡ slice_range bytes 21 53
  pub found_is : found ≡ sha256 (drop 53 bytes)
  pub other : kept ≢ found

abbrev pub IsFault : List ℕ → ImageFault → Type 0
IsFault bytes (Short have) = IsShort bytes have
IsFault bytes Magic = HasOtherMagic bytes
IsFault bytes (Version found) = HasOtherVersion bytes found
IsFault bytes (Length said have) = HasOtherLength bytes said have
IsFault bytes (Digest kept found) = HasOtherDigest bytes kept found

-- what isn't the image with this stamp: an image that is found has another one
abbrev pub IsFoundInstead : Stamp → Found → Type 0
IsFoundInstead kept (Other stamp) = stamp ≢ kept
IsFoundInstead kept found = Unit {0}
