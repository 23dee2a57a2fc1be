-- What is written of events can be cut into their texts in one way only.
use Rattle.std.proofs.Common.{◌≡◌, ◌≢◌, ℕ, suc, List, [], ◌∷◌, ◌++◌, drop, refl, sym, ◌∙◌, ap, subst, append_assoc, append-nil, arith}
use Rattle.std.specs.Prelude.{All}
use Rattle.std.specs.List.{flat_map}
use Rattle.std.proofs.lemmas.Bool.{false≢true}
use Rattle.far_words.specs.Moves.{MovesView}
use Rattle.far_asks.specs.declared.request.Outcome.{Outcome}
use Rattle.far_words.specs.declared.moves.PlacedRow.{PlacedRow}
use Rattle.script_text.specs.Words.{joined, ended, HasNoEnd}
use Rattle.script_text.specs.Outcomes.{outcome_words, outcome_text, OutcomeFits, is_mark, HasNoMark, IsOutcomeLine}
use Rattle.script_text.specs.Moves.{freed_words, placed_words, rows_text, moves_text, FreedFits, PlacedFits, MovesFit, HaveSameRows}
use Rattle.script_text.specs.Told.{ToldEvent, ToldFits, moves_of, told_text}
use Rattle.script_text.proofs.OneLine.{joined_no_end}
use Rattle.script_text.proofs.Named.{outcome_are_words, outcome_first, outcome_joined, freed_are_words, freed_joined, placed_are_words, placed_joined}

-- the first line ends at the first line end
line_cut : (a b xs ys : List ℕ) → HasNoEnd a → HasNoEnd b → a ++ 10 ∷ xs ≡ b ++ 10 ∷ ys → (a ≡ b) × (xs ≡ ys)
line_cut [] [] xs ys none also same = let rest : xs ≡ ys = cc in (refl, rest)
line_cut [] (b ∷ bs) xs ys none also same = let end : b ≡ 10 = cc in absurd (also.0 end)
line_cut (a ∷ front) [] xs ys none also same = let end : a ≡ 10 = cc in absurd (none.0 end)
line_cut (a ∷ front) (b ∷ bs) xs ys none also same =
    let first : a ≡ b = cc in
    let others : front ++ 10 ∷ xs ≡ bs ++ 10 ∷ ys = cc in
    let rest = line_cut front bs xs ys none.1 also.1 others in
    (λ i. first i ∷ rest.0 i, rest.1)

-- a text that is more than a line's end
with_rest : (line rest : List ℕ) → (line ++ 10 ∷ []) ++ rest ≡ line ++ 10 ∷ rest
with_rest line rest = append_assoc line (10 ∷ []) rest

-- a text doesn't begin with this byte
abbrev BeginsElse : ℕ → List ℕ → Type 0
BeginsElse mark [] = Unit {0}
BeginsElse mark (byte ∷ bytes) = byte ≢ mark

All-first : {X : Type 0} (P : X → Type 0) (x : X) (xs : List X) → All P (x ∷ xs) → P x
All-first P x xs all = all 0 x (omega arith)

All-others : {X : Type 0} (P : X → Type 0) (x : X) (xs : List X) → All P (x ∷ xs) → All P xs
All-others P x xs all = λ k d inside. all (suc k) d (omega arith)

-- rows whose lines begin with one mark, before what begins otherwise
module _ {X : Type 0} (words : X → List (List ℕ)) (mark : ℕ) (Fits : X → Type 0) (marked : (x : X) → ended (words x) ≡ mark ∷ drop 1 (ended (words x)))
    (no_end : (x : X) → Fits x → HasNoEnd (joined (words x))) (injective : (x y : X) → Fits x → Fits y → joined (words x) ≡ joined (words y) → x ≡ y) where
  begins_marked : (x : X) (xs : List X) (rest text : List ℕ) → BeginsElse mark text → text ≡ rows_text words (x ∷ xs) ++ rest → ⊥
  begins_marked x xs rest text else is =
      subst (λ t. BeginsElse mark t) (is ∙ ap (λ line. (line ++ rows_text words xs) ++ rest) (marked x)) else refl

  split : (x : X) (xs : List X) (rest : List ℕ) → rows_text words (x ∷ xs) ++ rest ≡ joined (words x) ++ 10 ∷ (rows_text words xs ++ rest)
  split x xs rest = append_assoc (ended (words x)) (rows_text words xs) rest ∙ with_rest (joined (words x)) (rows_text words xs ++ rest)

  rows_cut : (xs ys : List X) (rest more : List ℕ) → All Fits xs → All Fits ys → BeginsElse mark rest → BeginsElse mark more
      → rows_text words xs ++ rest ≡ rows_text words ys ++ more → (xs ≡ ys) × (rest ≡ more)
  rows_cut [] [] rest more fits also else other same = (refl, same)
  rows_cut [] (y ∷ ys) rest more fits also else other same = absurd (begins_marked y ys more rest else same)
  rows_cut (x ∷ xs) [] rest more fits also else other same = absurd (begins_marked x xs rest more other (sym same))
  rows_cut (x ∷ xs) (y ∷ ys) rest more fits also else other same =
      let fit = All-first Fits x xs fits in
      let fit_also = All-first Fits y ys also in
      let cut = line_cut (joined (words x)) (joined (words y)) (rows_text words xs ++ rest) (rows_text words ys ++ more) (no_end x fit) (no_end y fit_also) (sym (split x xs rest) ∙ same ∙ split y ys more) in
      let first = injective x y fit fit_also cut.0 in
      let others = rows_cut xs ys rest more (All-others Fits x xs fits) (All-others Fits y ys also) else other cut.1 in
      (λ i. first i ∷ others.0 i, others.1)

-- the lines of moves begin with their marks
freed_marked : (row : ℕ × ℕ) → ended (freed_words row) ≡ 45 ∷ drop 1 (ended (freed_words row))
unfolding joined
freed_marked row = refl

placed_marked : (row : PlacedRow) → ended (placed_words row) ≡ 43 ∷ drop 1 (ended (placed_words row))
unfolding joined
placed_marked row = refl

no_dash : (text : List ℕ) → HasNoMark text → BeginsElse 45 text
no_dash [] none = tt
no_dash (byte ∷ bytes) none = λ e. false≢true (sym none ∙ ap is_mark e)

no_plus : (text : List ℕ) → HasNoMark text → BeginsElse 43 text
no_plus [] none = tt
no_plus (byte ∷ bytes) none = λ e. false≢true (sym none ∙ ap is_mark e)

-- after the freed slices
placed_no_dash : (rows : List PlacedRow) (rest : List ℕ) → HasNoMark rest → BeginsElse 45 (rows_text placed_words rows ++ rest)
placed_no_dash [] rest none = no_dash rest none
placed_no_dash (row ∷ rows) rest none =
    subst (λ line. BeginsElse 45 ((line ++ rows_text placed_words rows) ++ rest)) (sym (placed_marked row)) (λ e. absurd (omega arith))

pub moves_cut : (one other : MovesView) (rest more : List ℕ) → MovesFit one → MovesFit other → HasNoMark rest → HasNoMark more
    → moves_text one ++ rest ≡ moves_text other ++ more → HaveSameRows one other × (rest ≡ more)
unfolding moves_text
moves_cut one other rest more fits also none too same =
    let group = append_assoc (rows_text freed_words one.freed) (rows_text placed_words one.placed) rest in
    let regroup = append_assoc (rows_text freed_words other.freed) (rows_text placed_words other.placed) more in
    let freed = rows_cut freed_words 45 FreedFits freed_marked (λ row fit. joined_no_end (freed_words row) (freed_are_words row fit)) freed_joined one.freed other.freed
    (rows_text placed_words one.placed ++ rest) (rows_text placed_words other.placed ++ more) fits.freed also.freed (placed_no_dash one.placed rest none) (placed_no_dash other.placed more too) (sym group ∙ same ∙ regroup) in
    let placed = rows_cut placed_words 43 PlacedFits placed_marked (λ row fit. joined_no_end (placed_words row) (placed_are_words row fit)) placed_joined one.placed other.placed
    rest more fits.placed also.placed (no_plus rest none) (no_plus more too) freed.1 in
    (record { freed = freed.0; placed = placed.0 }, placed.1)

pub moves_injective : (one other : MovesView) → MovesFit one → MovesFit other → moves_text one ≡ moves_text other → HaveSameRows one other
moves_injective one other fits also same =
    (moves_cut one other [] [] fits also tt tt (append-nil (moves_text one) ∙ same ∙ sym (append-nil (moves_text other)))).0

-- an outcome's line, and what comes after it
outcome_cut : (one other : Outcome) (rest more : List ℕ) → OutcomeFits one → OutcomeFits other → outcome_text one ++ rest ≡ outcome_text other ++ more → (one ≡ other) × (rest ≡ more)
unfolding outcome_text
outcome_cut one other rest more fits also same =
    let cut = line_cut (joined (outcome_words one)) (joined (outcome_words other)) rest more
    (joined_no_end (outcome_words one) (outcome_are_words one fits)) (joined_no_end (outcome_words other) (outcome_are_words other also))
    (sym (with_rest (joined (outcome_words one)) rest) ∙ same ∙ with_rest (joined (outcome_words other)) more) in
    (outcome_joined one other fits also cut.0, cut.1)

pub outcome_text_injective : (one other : Outcome) → OutcomeFits one → OutcomeFits other → outcome_text one ≡ outcome_text other → one ≡ other
outcome_text_injective one other fits also same = (outcome_cut one other [] [] fits also (ap (λ t. t ++ []) same)).0

pub outcome_line : (outcome : Outcome) → OutcomeFits outcome → IsOutcomeLine (outcome_text outcome)
unfolding outcome_text
outcome_line outcome fits = record {
  line = joined (outcome_words outcome);
  with_end = refl;
  one = joined_no_end (outcome_words outcome) (outcome_are_words outcome fits);
  first = outcome_first outcome (10 ∷ []);
}

-- the text of events begins as no line of moves does
told_first : (events : List ToldEvent) → HasNoMark (flat_map told_text events)
unfolding outcome_text
told_first [] = tt
told_first (told ∷ events) =
    let line = joined (outcome_words told.outcome) in
    subst HasNoMark (sym (append_assoc (outcome_text told.outcome) (moves_text (moves_of told)) (flat_map told_text events) ∙ append_assoc line (10 ∷ []) _)) (outcome_first told.outcome _)

told_some : (told : ToldEvent) (rest : List ℕ) → [] ≡ told_text told ++ rest → ⊥
unfolding outcome_text
told_some told rest none =
    let line = joined (outcome_words told.outcome) in
    no_end_in_none line _ (none ∙ append_assoc (outcome_text told.outcome) (moves_text (moves_of told)) rest ∙ append_assoc line (10 ∷ []) _)
  where
    no_end_in_none : (line rest : List ℕ) → [] ≡ line ++ 10 ∷ rest → ⊥
    no_end_in_none [] rest none = cc
    no_end_in_none (byte ∷ bytes) rest none = cc

-- events of one text are one
pub told_injective : (one other : List ToldEvent) → All ToldFits one → All ToldFits other → flat_map told_text one ≡ flat_map told_text other → one ≡ other
told_injective [] [] fits also same = refl
told_injective [] (b ∷ bs) fits also same = absurd (told_some b (flat_map told_text bs) same)
told_injective (a ∷ front) [] fits also same = absurd (told_some a (flat_map told_text front) (sym same))
told_injective (a ∷ front) (b ∷ bs) fits also same =
    let rest = flat_map told_text front in
    let more = flat_map told_text bs in
    let fit = All-first ToldFits a front fits in
    let fit_also = All-first ToldFits b bs also in
    let outcome = outcome_cut a.outcome b.outcome (moves_text (moves_of a) ++ rest) (moves_text (moves_of b) ++ more) fit.outcome fit_also.outcome
    (sym (append_assoc (outcome_text a.outcome) (moves_text (moves_of a)) rest) ∙ same ∙ append_assoc (outcome_text b.outcome) (moves_text (moves_of b)) more) in
    let moves = moves_cut (moves_of a) (moves_of b) rest more fit.moves fit_also.moves (told_first front) (told_first bs) outcome.1 in
    let others = told_injective front bs (All-others ToldFits a front fits) (All-others ToldFits b bs also) moves.1 in
    λ i. record { outcome = outcome.0 i; freed = moves.0.freed i; placed = moves.0.placed i } ∷ others i
