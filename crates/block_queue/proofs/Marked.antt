-- The marks of a queue: the last one, and where a push goes.
use Rattle.std.proofs.Common.{◌≡◌, ◌≢◌, ℕ, suc, ◌+◌, ◌-◌, ◌<◌, ◌≤◌, nat_le, nat_lt, Bool, true, false, cond, List, [], ◌∷◌, ◌++◌, length, map, take, drop, set, get_or, Some, None, refl, sym, ap, ◌∙◌, subst, arith}
use Rattle.std.specs.Prelude.{All, AllPairs}
use Rattle.std.specs.Option.{option_and_then}
use Rattle.std.proofs.lemmas.Bool.Decides.{nat_tests}
use Rattle.std.proofs.lemmas.Option.{same_Some, cond_some, option_and_then_some}
use Rattle.std.proofs.lemmas.List.{take_all, take_more, nil_from_length, get_or-map, length-map, length_push, get_or_append_left, get_or_push, set_at}
use Rattle.std.proofs.lemmas.List.Elements.{All-cons, All-head, All-tail}
use Rattle.block_seats.specs.Seatings.{SeatingView, length_at}
use Rattle.block_queue.specs.declared.marks.Mark.{Mark}
use Rattle.block_queue.specs.Queues.{QueueView, last_mark, has_space, target_of}

pub last-push : (front : List Mark) (mark : Mark) → last_mark (front ++ mark ∷ []) ≡ Some mark
last-push [] mark = refl
last-push (m ∷ []) mark = refl
last-push (m ∷ n ∷ ms) mark = last-push (n ∷ ms) mark

pub ends_at : (queue : QueueView) (mark : Mark) → 0 < length queue → mark ≡ get_or queue (length queue - 1) mark → queue ≡ take (length queue - 1) queue ++ mark ∷ []
ends_at queue mark some is =
    sym (take_all (length queue - 1 + 1) queue (omega arith))
    ∙ take_more queue (length queue - 1) mark (omega arith)
    ∙ ap (λ x. take (length queue - 1) queue ++ x ∷ []) (sym is)

pub last-at : (queue : QueueView) (mark : Mark) → 0 < length queue → mark ≡ get_or queue (length queue - 1) mark → last_mark queue ≡ Some mark
last-at queue mark some is = ap last_mark (ends_at queue mark some is) ∙ last-push (take (length queue - 1) queue) mark

pub last_none : (queue : QueueView) → length queue ≡ 0 → last_mark queue ≡ None
last_none queue none = ap last_mark (nil_from_length queue none)

-- a queue that has a last mark
pub record EndsIn (queue : QueueView) (mark : Mark) : Type 0 where
  pub front : List Mark
  pub parts : queue ≡ front ++ mark ∷ []

pub ends_in : (queue : QueueView) (mark : Mark) → last_mark queue ≡ Some mark → EndsIn queue mark
ends_in [] mark e = cc
ends_in (m ∷ []) mark e = record { front = []; parts = ap (λ x. x ∷ []) (same_Some m mark e) }
ends_in (m ∷ n ∷ ms) mark e =
    let rest = ends_in (n ∷ ms) mark e in
    record { front = m ∷ rest.front; parts = ap (λ xs. m ∷ xs) rest.parts }

pub le_true : (a b : ℕ) → nat_le a b ≡ true → a ≤ b
le_true a b e = grind (arith, nat_tests)

pub le_false : (a b : ℕ) → nat_le a b ≡ false → b < a
le_false a b e = grind (arith, nat_tests)

pub le_is_true : (a b : ℕ) → a ≤ b → nat_le a b ≡ true
le_is_true a b e = grind (arith, nat_tests)

pub le_is_false : (a b : ℕ) → b < a → nat_le a b ≡ false
le_is_false a b e = grind (arith, nat_tests)

pub lt_is_true : (a b : ℕ) → a < b → nat_lt a b ≡ true
lt_is_true a b e = grind (arith, nat_tests)

pub lt_is_false : (a b : ℕ) → b ≤ a → nat_lt a b ≡ false
lt_is_false a b e = grind (arith, nat_tests)

pub no_last : (queue : QueueView) → last_mark queue ≡ None → queue ≡ []
no_last [] e = refl
no_last (m ∷ []) e = cc
no_last (m ∷ n ∷ ms) e = let rest = no_last (n ∷ ms) e in cc

-- the last mark was written over
pub last_set : (queue front : List Mark) (mark read next : Mark) (n : ℕ) → queue ≡ front ++ mark ∷ [] → n ≡ length front → read ≡ get_or queue n read
    → (set queue n next ≡ front ++ next ∷ []) × (read ≡ mark)
last_set queue front mark read next n parts last is = (
  ap (λ (q : List Mark). set q n next) parts ∙ set_at front mark [] next n (sym last),
  is ∙ ap (λ (q : List Mark). get_or q n read) parts ∙ get_or_push front mark read n (sym last),
)

-- and the first one
pub first_rest : (queue : List Mark) (read : Mark) → 0 < length queue → read ≡ get_or queue 0 read → queue ≡ read ∷ drop 1 queue
first_rest [] read some is = absurd (omega arith)
first_rest (mark ∷ rest) read some is = ap (λ (m : Mark). m ∷ rest) (sym is)

-- where a push goes

pub target-at : (seats : SeatingView) (queue : QueueView) (bytes : ℕ) (mark : Mark) → last_mark queue ≡ Some mark
    → target_of seats queue bytes ≡ cond (has_space seats bytes mark) (Some mark.block) None
target-at seats queue bytes mark e = ap (option_and_then (λ (m : Mark). cond (has_space seats bytes m) (Some m.block) None)) e

pub target_none : (seats : SeatingView) (queue : QueueView) (bytes : ℕ) → last_mark queue ≡ None → target_of seats queue bytes ≡ None
target_none seats queue bytes e = ap (option_and_then (λ (m : Mark). cond (has_space seats bytes m) (Some m.block) None)) e

-- the last block has room
pub record Target (seats : SeatingView) (queue : QueueView) (bytes block : ℕ) : Type 0 where
  pub mark : Mark
  pub front : List Mark
  pub parts : queue ≡ front ++ mark ∷ []
  pub block_is : mark.block ≡ block
  pub space : length_at seats mark.block + bytes ≤ seats.size

pub target_split : (seats : SeatingView) (queue : QueueView) (bytes block : ℕ) → target_of seats queue bytes ≡ Some block → Target seats queue bytes block
target_split seats queue bytes block e =
    option_and_then_some (λ (m : Mark). cond (has_space seats bytes m) (Some m.block) None) (last_mark queue) block e
    (λ mark last here.
    let room = cond_some (has_space seats bytes mark) mark.block block here in
    let ends = ends_in queue mark last in
    record {
      mark = mark;
      front = ends.front;
      parts = ends.parts;
      block_is = room.1;
      space = le_true (length_at seats mark.block + bytes) seats.size room.0;
    })

none_false : (b : Bool) (block : ℕ) → cond b (Some block) None ≡ None → b ≡ false
none_false true block e = cc
none_false false block e = refl

-- or it has none
pub no_space : (seats : SeatingView) (queue : QueueView) (bytes : ℕ) → target_of seats queue bytes ≡ None
    → (front : List Mark) (mark : Mark) → queue ≡ front ++ mark ∷ [] → seats.size < length_at seats mark.block + bytes
no_space seats queue bytes none front mark parts =
    le_false (length_at seats mark.block + bytes) seats.size
    (none_false (has_space seats bytes mark) mark.block
    (sym (target-at seats queue bytes mark (ap last_mark parts ∙ last-push front mark)) ∙ none))

-- numbers that differ

pub apart_last : (xs : List ℕ) (y : ℕ) → AllPairs ◌≢◌ (xs ++ y ∷ []) → All (λ x. x ≢ y) xs
apart_last xs y pairs = λ k d inside same.
    pairs k (length xs) d inside (omega (arith, length_push xs y))
    (get_or_append_left xs (y ∷ []) d k inside ∙ same ∙ sym (get_or_push xs y d (length xs) refl))

pub apart_first : (x : ℕ) (xs : List ℕ) → AllPairs ◌≢◌ (x ∷ xs) → All (λ y. y ≢ x) xs
apart_first x xs pairs = λ k d inside same. pairs 0 (suc k) d (omega arith) (omega arith) (sym same)

pub pairs-tail : (x : ℕ) (xs : List ℕ) → AllPairs ◌≢◌ (x ∷ xs) → AllPairs ◌≢◌ xs
pairs-tail x xs pairs = λ i j d before inside. pairs (suc i) (suc j) d (omega arith) (omega arith)

-- what holds of all of a list with a last element
pub All-ends : {X : Type 0} (P : X → Type 0) (xs : List X) (y : X) → All P (xs ++ y ∷ []) → All P xs × P y
All-ends P [] y all = (λ k d inside. absurd (omega arith), All-head P y [] all)
All-ends P (x ∷ xs) y all =
    let rest = All-ends P xs y (All-tail P x (xs ++ y ∷ []) all) in
    (All-cons P x xs (All-head P x (xs ++ y ∷ []) all) rest.0, rest.1)

-- and of all that is made of one
pub All-unmap : {X Y : Type 0} (P : Y → Type 0) (f : X → Y) (xs : List X) → All P (map f xs) → All (λ x. P (f x)) xs
All-unmap P f xs all = λ k d inside. subst P (get_or-map f xs k d (f d) inside) (all k (f d) (omega (arith, length-map xs f)))
