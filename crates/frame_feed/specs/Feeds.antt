-- What comes next in bytes: a frame, or why there is none.
use Rattle.std.specs.Prelude.{◌≡◌, ℕ, ◌+◌, ◌<◌, ◌≤◌, ◌⊎◌, List, [], ◌++◌, length, Ok, Err}
use Rattle.std.specs.declared.option.Option.{Option}
use Rattle.std.specs.declared.result.Result.{Result}
use Rattle.far_io.specs.Left.{in_front, IsAtEnd}
use Rattle.frame_fields.specs.declared.lengths.TheConstants.{MOST_IN_FRAME}
use Rattle.frame_fields.specs.Frames.{said, IsFrame}
use Rattle.frame_feed.specs.declared.feed.FeedEnd.{FeedEnd}
use Rattle.frame_feed.specs.declared.feed.FeedEnd.TheVariants.{End, Cut, TooLong, ReadFault}
use Rattle.frame_feed.specs.declared.look.Ahead.{Ahead}
use Rattle.frame_feed.specs.declared.look.Ahead.TheVariants.{Whole, Long, Part}
use Rattle.frame_feed.specs.FeedView.{FeedView}

-- a whole frame stands at the front
pub record HasFrame (bytes : List ℕ) : Type 0 where
  pub long : 4 + said bytes ≤ length bytes
  pub short : said bytes ≤ MOST_IN_FRAME

-- less than a frame: its length field isn't whole, or is, and more bytes are to come
abbrev pub IsPart : List ℕ → Type 0
IsPart bytes = (length bytes < 4) ⊎ ((said bytes ≤ MOST_IN_FRAME) × (length bytes < 4 + said bytes))

-- the length field is whole, and says more than any frame has
pub record IsTooLong (bytes : List ℕ) (len : ℕ) : Type 0 where
  pub whole : 4 ≤ length bytes
  pub len_is : len ≡ said bytes
  pub long : MOST_IN_FRAME < len

-- what stands at the front
abbrev pub Looks : List ℕ → Ahead → Type 0
Looks bytes (Whole count) = (count ≡ 4 + said bytes) × HasFrame bytes
Looks bytes (Long len) = IsTooLong bytes len
Looks bytes Part = IsPart bytes

-- The answers of next_frame, of a feed and a source that have `before` to be read at first and `now` afterwards, of
-- which the source itself has `left`.
abbrev pub Feeds : Option (List ℕ) → Option (List ℕ) → Option (List ℕ) → FeedView → Result (Unit {0}) FeedEnd → Type 0
Feeds before now left new (Ok _) = (before ≡ in_front new.frame now) × IsFrame new.frame
Feeds before now left new (Err End) = (before ≡ now) × (new.frame ≡ []) × (new.ahead ≡ []) × IsAtEnd left
Feeds before now left new (Err (Cut have)) =
    (before ≡ now) × (new.frame ≡ []) × (length new.ahead ≡ have) × (1 ≤ have) × IsPart new.ahead × IsAtEnd left
Feeds before now left new (Err (TooLong len)) = (before ≡ now) × (new.frame ≡ []) × IsTooLong new.ahead len
Feeds before now left new (Err ReadFault) = (before ≡ now) × (new.frame ≡ []) × IsPart new.ahead

-- The same, of bytes that are told: they decide each answer, but for a fault.
abbrev pub Decides : List ℕ → List ℕ → Result (Unit {0}) FeedEnd → Type 0
Decides bytes frame (Ok _) = IsFrame frame × ((rest : List ℕ) × (bytes ≡ frame ++ rest))
Decides bytes frame (Err End) = bytes ≡ []
Decides bytes frame (Err (Cut have)) = (length bytes ≡ have) × (1 ≤ have) × IsPart bytes
Decides bytes frame (Err (TooLong len)) = IsTooLong bytes len
Decides bytes frame (Err ReadFault) = Unit {0}

-- this frame was read, but for a fault
abbrev pub IsRead : List ℕ → List ℕ → Result (Unit {0}) FeedEnd → Type 0
IsRead first frame (Ok _) = frame ≡ first
IsRead first frame (Err ReadFault) = Unit {0}
IsRead first frame (Err _) = ⊥
