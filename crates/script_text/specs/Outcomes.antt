-- The line of an outcome, with its line end.
use Rattle.std.specs.Prelude.{◌≡◌, ℕ, ◌^◌, ◌<◌, ◌==◌, ◌||◌, Bool, false, List, [], ◌∷◌, ◌++◌, codes}
use Rattle.std.specs.Fmt.{decimal}
use Rattle.far_io.specs.Escapes.{escaped}
use Rattle.far_asks.specs.declared.request.Reply.{Reply}
use Rattle.far_asks.specs.declared.request.Reply.TheVariants.{Done, Number, Bytes, Item, Nothing, TooLong, Absent, WrongKind, Exists, Full, Exhausted, StoreFault, Damaged, AbsentUser, NoMemory}
use Rattle.far_asks.specs.declared.request.Outcome.{Outcome}
use Rattle.far_asks.specs.declared.request.Outcome.TheVariants.{Reply as Replied, Slice, Granted, HandEmpty, PoolEmpty}
use Rattle.script_text.specs.Words.{ended, HasNoEnd}
use Rattle.script_text.specs.Damages.{damage_words, StampFits, FoundFits}

abbrev pub reply_words : Reply → List (List ℕ)
reply_words Done = codes "done" ∷ []
reply_words (Number number) = codes "number" ∷ decimal number ∷ []
reply_words (Bytes bytes) = codes "bytes" ∷ escaped bytes ∷ []
reply_words (Item item) = codes "item" ∷ escaped item ∷ []
reply_words Nothing = codes "nothing" ∷ []
reply_words (TooLong limit) = codes "toolong" ∷ decimal limit ∷ []
reply_words Absent = codes "absent" ∷ []
reply_words WrongKind = codes "wrongkind" ∷ []
reply_words Exists = codes "exists" ∷ []
reply_words (Full limit) = codes "full" ∷ decimal limit ∷ []
reply_words (Exhausted need used granted) = codes "exhausted" ∷ decimal need ∷ decimal used ∷ decimal granted ∷ []
reply_words StoreFault = codes "storefault" ∷ []
reply_words (Damaged kept found) = damage_words kept found
reply_words (AbsentUser users) = codes "absentuser" ∷ decimal users ∷ []
reply_words NoMemory = codes "nomemory" ∷ []

abbrev pub outcome_words : Outcome → List (List ℕ)
outcome_words (Replied reply) = reply_words reply
outcome_words (Slice slice number) = codes "slice" ∷ decimal slice ∷ decimal number ∷ []
outcome_words (Granted slice number) = codes "granted" ∷ decimal slice ∷ decimal number ∷ []
outcome_words HandEmpty = codes "handempty" ∷ []
outcome_words PoolEmpty = codes "poolempty" ∷ []

unfoldable pub outcome_text : Outcome → List ℕ
outcome_text outcome = ended (outcome_words outcome)

-- each number is within the limit of its field
abbrev pub ReplyFits : Reply → Type 0
ReplyFits (Number number) = number < 2 ^ 64
ReplyFits (TooLong limit) = limit < 2 ^ 64
ReplyFits (Full limit) = limit < 2 ^ 64
ReplyFits (Exhausted need used granted) = (need < 2 ^ 64) × (used < 2 ^ 64) × (granted < 2 ^ 64)
ReplyFits (Damaged kept found) = StampFits kept × FoundFits found
ReplyFits (AbsentUser users) = users < 2 ^ 32
ReplyFits reply = Unit {0}

abbrev pub OutcomeFits : Outcome → Type 0
OutcomeFits (Replied reply) = ReplyFits reply
OutcomeFits (Slice slice number) = (slice < 2 ^ 32) × (number < 2 ^ 64)
OutcomeFits (Granted slice number) = (slice < 2 ^ 32) × (number < 2 ^ 64)
OutcomeFits outcome = Unit {0}

-- a line of moves begins with `-` or `+`
abbrev pub is_mark : ℕ → Bool
is_mark byte = byte == 45 || byte == 43

abbrev pub HasNoMark : List ℕ → Type 0
HasNoMark [] = Unit {0}
HasNoMark (byte ∷ bytes) = is_mark byte ≡ false

-- the text is one line with its end, and doesn't begin as a line of moves does
pub record IsOutcomeLine (text : List ℕ) : Type 0 where
  pub line : List ℕ
  pub with_end : text ≡ line ++ 10 ∷ []
  pub one : HasNoEnd line
  pub first : HasNoMark text
