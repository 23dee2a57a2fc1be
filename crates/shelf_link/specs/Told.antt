-- What a shelf tells of its content.
use Rattle.std.specs.Prelude.{◌≡◌, ◌≢◌, ◌<◌, ◌≤◌, ◌||◌, ℕ, Bool, true, false, List, length, take, is_some, IsTrue, Some, None}
use Rattle.std.specs.declared.option.Option.{Option}
use Rattle.shelf_link.specs.declared.shelf.Got.{Got}
use Rattle.shelf_link.specs.declared.shelf.Got.TheVariants.{Absent, Bytes, Longer}
use Rattle.shelf_link.specs.Blocks.{Blocks, block_at}

-- the content, where it is told, and whether the shelf tells that it is void: each get that answers Ok answers Absent
pub record Told : Type 0 where
  pub content : Option Blocks
  pub void : Bool

-- of a shelf that tells its content, of one that is void, and of one that tells nothing
abbrev pub telling : Blocks → Told
telling blocks = record { content = Some blocks; void = false }

abbrev pub void_told : Told
void_told = record { content = None; void = true }

abbrev pub nothing_told : Told
nothing_told = record { content = None; void = false }

abbrev pub tells : Told → Bool
tells told = is_some told.content

-- something is known of each get that answers Ok
abbrev pub is_sure : Told → Bool
is_sure told = tells told || told.void

abbrev pub content_at : Option Blocks → ℕ → Option (List ℕ)
content_at None block = None
content_at (Some blocks) block = block_at blocks block

-- what stands under a block
abbrev pub under : Told → ℕ → Option (List ℕ)
under told block = content_at told.content block

-- where the content is told, this stands under a block
abbrev pub StandsThere : Told → ℕ → Option (List ℕ) → Type 0
StandsThere told block what = IsTrue (tells told) → under told block ≡ what

-- what told its content tells it, and what was void is void
pub record IsSameKind (before now : Told) : Type 0 where
  pub tells : tells now ≡ tells before
  pub void : now.void ≡ before.void

-- nothing changed under other blocks
abbrev pub KeepsOthers : Told → Told → ℕ → Type 0
KeepsOthers before now block = (other : ℕ) → other ≢ block → under now other ≡ under before other

-- what is answered into a buffer where this is held. So Longer comes exactly where the bytes are more than the buffer's
abbrev pub IsGot : Option (List ℕ) → List ℕ → Got → Type 0
IsGot held out Absent = held ≡ None
IsGot held out (Bytes count) = held ≡ Some (take count out)
IsGot held out (Longer len) = (bytes : List ℕ) × (held ≡ Some bytes) × (length bytes ≡ len)

-- a count is within the buffer, and a longer one isn't
abbrev pub IsWithin : List ℕ → Got → Type 0
IsWithin out Absent = Unit {0}
IsWithin out (Bytes count) = count ≤ length out
IsWithin out (Longer len) = length out < len

-- what a get that answers Ok may give
pub record Gives (told : Told) (block : ℕ) (out : List ℕ) (got : Got) : Type 0 where
  pub held : IsTrue (tells told) → IsGot (under told block) out got
  pub void : IsTrue told.void → got ≡ Absent
