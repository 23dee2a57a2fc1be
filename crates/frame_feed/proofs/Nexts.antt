-- What comes next is decided by the bytes.
use Rattle.std.proofs.Common.{◌≡◌, ℕ, ◌+◌, ◌≤◌, List, ◌++◌, length, take, drop, Option, Some, Result, Ok, Err, refl, sym, ap, subst, ◌∙◌, append-nil, arith, inl, inr}
use Rattle.std.specs.Int.{w32, from_be_bytes}
use Rattle.std.proofs.lemmas.List.{take-append-le, take_at, drop_at, length-append, length-take, take-take, take-append-drop}
use Rattle.far_io.specs.Left.{in_front, IsAtEnd}
use Rattle.far_io.proofs.Left.{in_front_told, in_front_of}
use Rattle.frame_fields.specs.Frames.{said, IsFrame}
use Rattle.frame_feed.specs.declared.feed.FeedEnd.{FeedEnd}
use Rattle.frame_feed.specs.declared.feed.FeedEnd.TheVariants.{End, Cut, TooLong, ReadFault}
use Rattle.frame_feed.specs.FeedView.{FeedView}
use Rattle.frame_feed.specs.Feeds.{HasFrame, IsPart, Feeds, Decides, IsRead}

-- the length that bytes say doesn't hang on what follows
pub said_front : (a b : List ℕ) → 4 ≤ length a → said (a ++ b) ≡ said a
said_front a b long = ap (from_be_bytes w32) (take-append-le 4 a b long)

pub said_take : (bytes : List ℕ) (n : ℕ) → 4 ≤ n → said (take n bytes) ≡ said bytes
said_take bytes n long = ap (from_be_bytes w32) (take-take 4 n bytes long)

-- the frame at the front
pub is_frame : (bytes : List ℕ) (count : ℕ) → count ≡ 4 + said bytes → HasFrame bytes → IsFrame (take count bytes)
is_frame bytes count is has =
    let s : said (take count bytes) ≡ said bytes = said_take bytes count (omega arith) in
    record { long = omega (arith, length-take count bytes, has.long, s); short = omega (arith, has.short, s) }

-- nothing behind it
nothing_left : (ahead bytes : List ℕ) (left : Option (List ℕ)) → IsAtEnd left → in_front ahead left ≡ Some bytes
    → bytes ≡ ahead
nothing_left ahead bytes left end told =
    let t = in_front_told ahead bytes left told in t.2 ∙ ap (λ (x : List ℕ). ahead ++ x) (end t.0 t.1)
    ∙ append-nil ahead

pub decided : (before now left : Option (List ℕ)) (new : FeedView) (result : Result (Unit {0}) FeedEnd)
    → now ≡ in_front new.ahead left → Feeds before now left new result
    → (bytes : List ℕ) → before ≡ Some bytes → Decides bytes new.frame result
decided before now left new (Ok _) is feeds bytes told = let t = in_front_told new.frame bytes now (sym feeds.0
    ∙ told) in (feeds.1, (t.0, t.2))
decided before now left new (Err End) is feeds bytes told = nothing_left new.ahead bytes left feeds.3 (sym is
    ∙ sym feeds.0 ∙ told) ∙ feeds.2
decided before now left new (Err (Cut have)) is feeds bytes told =
    let e : bytes ≡ new.ahead = nothing_left new.ahead bytes left feeds.5 (sym is ∙ sym feeds.0 ∙ told) in
    (ap length e ∙ feeds.2, feeds.3, subst IsPart (sym e) feeds.4)
decided before now left new (Err (TooLong len)) is feeds bytes told =
    let t = in_front_told new.ahead bytes left (sym is ∙ sym feeds.0 ∙ told) in
    let long : 4 ≤ length new.ahead = feeds.2.whole in
    let s : said bytes ≡ said new.ahead = ap said t.2 ∙ said_front new.ahead t.0 long in
    record {
      whole = omega (arith, ap length t.2, length-append new.ahead t.0);
      len_is = feeds.2.len_is
          ∙ sym s;
      long = feeds.2.long;
    }
decided before now left new (Err ReadFault) is feeds bytes told = tt

-- a frame at the front of bytes is no part, and isn't too long
frame_front : (frame more : List ℕ) → IsFrame frame → HasFrame (frame ++ more)
frame_front frame more is =
    let s : said (frame ++ more) ≡ said frame = said_front frame more (omega (arith, is.long)) in
    record { long = omega (arith, is.long, s, length-append frame more); short = omega (arith, is.short, s) }

pub no_part : (bytes : List ℕ) → HasFrame bytes → IsPart bytes → ⊥
no_part bytes has part = elim part [
  | inl short ↦ omega (arith, short, has.long)
  | inr more ↦ omega
      (arith, more.1, has.long)
]

-- two frames at the front are one
pub frame_one : (f g a b : List ℕ) → IsFrame f → IsFrame g → f ++ a ≡ g ++ b → (f ≡ g) × (a ≡ b)
frame_one f g a b p q same =
    let sf : said (f ++ a) ≡ said f = said_front f a (omega (arith, p.long)) in
    let sg : said (g ++ b) ≡ said g = said_front g b (omega (arith, q.long)) in
    let l : length f ≡ length g = omega (arith, p.long, q.long, sf, sg, ap said same) in (
      sym (take_at f a (length f) refl) ∙ ap (take (length f)) same
          ∙ take_at g b (length f) (sym l),
      sym (drop_at f a (length f) refl) ∙ ap (drop (length f)) same
          ∙ drop_at g b (length f) (sym l),
    )

pub first_read : (bytes frame : List ℕ) (result : Result (Unit {0}) FeedEnd) → Decides bytes frame result
    → (first more : List ℕ) → IsFrame first → bytes ≡ first ++ more → IsRead first frame result
first_read bytes frame (Ok _) decides first more is same = (frame_one frame first decides.1.0 more decides.0 is
    (sym decides.1.1 ∙ same)).0
first_read bytes frame (Err End) decides first more is same =
    let n : length first + length more ≡ 0 = sym (length-append first more)
    ∙ ap length (sym same ∙ decides) in omega (arith, is.long, n)
first_read bytes frame (Err (Cut have)) decides first more is same = no_part bytes
    (subst HasFrame (sym same) (frame_front first more is)) decides.2
first_read bytes frame (Err (TooLong len)) decides first more is same =
    let h : HasFrame bytes = subst HasFrame (sym same) (frame_front first more is) in omega
    (arith, h.short, decides.len_is, decides.long)
first_read bytes frame (Err ReadFault) decides first more is same = tt

-- the bytes ahead begin with a frame
pub whole_feeds : (ahead : List ℕ) (count : ℕ) (left before : Option (List ℕ)) → in_front ahead left ≡ before
    → (count ≡ 4 + said ahead) × HasFrame ahead
    → (before ≡ in_front (take count ahead) (in_front (drop count ahead) left)) × IsFrame (take count ahead)
whole_feeds ahead count left before same has = (
  sym same ∙ sym (in_front_of (take count ahead) (drop count ahead) left
      ∙ ap (λ (t : List ℕ). in_front t left) (take-append-drop count ahead)),
  is_frame ahead count has.0 has.1,
)

-- where a frame was ahead, and the same is ahead, it is no part
pub never_part : {P : Type 0} (first ahead seen : List ℕ) → HasFrame first → ahead ≡ first → seen ≡ ahead
    → IsPart seen → P
never_part first ahead seen has same is part = absurd (no_part first has (subst IsPart (is ∙ same) part))
