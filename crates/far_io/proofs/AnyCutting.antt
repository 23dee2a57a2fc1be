-- Any cutting: what read_line answers is decided by the bytes that are to be read and the limit, but for a fault.
use Rattle.std.proofs.Common.{◌≡◌, ◌≢◌, ℕ, List, [], ◌∷◌, length, Option, Some, Result, Ok, Err, refl, sym, ◌∙◌, ap, arith}
use Rattle.std.specs.Prelude.{OnOk}
use Rattle.far_io.specs.declared.lines.LineEnd.{LineEnd}
use Rattle.far_io.specs.declared.lines.LineEnd.TheVariants.{End, ReadFault, TooLong}
use Rattle.far_io.specs.LineView.{LineView}
use Rattle.far_io.specs.Lines.{line_of, after_line, lines_of}
use Rattle.far_io.specs.Reads.{Reads, ReadsLine, ReadsTooLong}
use Rattle.far_io.proofs.LineLaws.{line_of_none, lines_of_none}

-- the line is the first of the bytes, and what is to be read next is what is after it
pub line_told : (bytes : List ℕ) (now : Option (List ℕ)) (old new : LineView) → ReadsLine (Some bytes) now old new
    → (new.line ≡ line_of bytes) × (now ≡ Some (after_line bytes))
line_told bytes now old new read = let got = read.told bytes refl in (got.2.line, got.1 ∙ ap Some got.2.rest)

line_some : (bytes : List ℕ) (now : Option (List ℕ)) (old new : LineView) → ReadsLine (Some bytes) now old new → bytes ≢ []
line_some bytes now old new read empty =
    let got = read.told bytes refl in
    let lines : [] ≡ new.line ∷ lines_of got.0 = sym lines_of_none ∙ ap lines_of (sym empty) ∙ got.2.lines in
    absurd (cc)

long_some : (bytes : List ℕ) (now : Option (List ℕ)) (old new : LineView) (limit : ℕ) → ReadsTooLong (Some bytes) now old new limit → bytes ≢ []
long_some bytes now old new limit read empty =
    let size = ap (λ all. length (line_of all)) empty ∙ ap length line_of_none in
    absurd (omega (arith, size, (read.told bytes refl).0))

-- a line that fits isn't too long
fits_or_not : (bytes : List ℕ) (now now' : Option (List ℕ)) (old old' new new' : LineView) (limit : ℕ) → old.limit ≡ old'.limit
    → ReadsLine (Some bytes) now old new → ReadsTooLong (Some bytes) now' old' new' limit → ⊥
fits_or_not bytes now now' old old' new new' limit limits line long =
    let size = ap length (line_told bytes now old new line).0 in
    absurd (omega (arith, size, line.fits, limits, long.limit_is, (long.told bytes refl).0))

-- Two readings of the same bytes with one limit, from whatever sources and in whatever pieces, give the same answer, the
-- same line and the same rest, where neither met a fault. That End comes at the end alone is what read_line ensures.
pub any_cutting : (bytes : List ℕ) (now now' : Option (List ℕ)) (old old' new new' : LineView) (result result' : Result (Unit {0}) LineEnd)
    → Reads (Some bytes) now old new result → Reads (Some bytes) now' old' new' result' → old.limit ≡ old'.limit
    → (result ≡ Err End → bytes ≡ []) → (result' ≡ Err End → bytes ≡ []) → result ≢ Err ReadFault → result' ≢ Err ReadFault
    → (result ≡ result') × (now ≡ now') × OnOk result (new.line ≡ new'.line)
any_cutting bytes now now' old old' new new' (Ok _) (Ok _) a b limits end end' sound sound' =
    let line = line_told bytes now old new a in
    let line' = line_told bytes now' old' new' b in
    (refl, line.1 ∙ sym line'.1, line.0 ∙ sym line'.0)
any_cutting bytes now now' old old' new new' (Ok _) (Err End) a b limits end end' sound sound' = absurd (line_some bytes now old new a (end' refl))
any_cutting bytes now now' old old' new new' (Ok _) (Err ReadFault) a b limits end end' sound sound' = absurd (sound' refl)
any_cutting bytes now now' old old' new new' (Ok _) (Err (TooLong limit)) a b limits end end' sound sound' =
    absurd (fits_or_not bytes now now' old old' new new' limit limits a b)
any_cutting bytes now now' old old' new new' (Err End) (Ok _) a b limits end end' sound sound' = absurd (line_some bytes now' old' new' b (end refl))
any_cutting bytes now now' old old' new new' (Err End) (Err End) a b limits end end' sound sound' = (refl, a.kept ∙ sym b.kept, tt)
any_cutting bytes now now' old old' new new' (Err End) (Err ReadFault) a b limits end end' sound sound' = absurd (sound' refl)
any_cutting bytes now now' old old' new new' (Err End) (Err (TooLong limit)) a b limits end end' sound sound' =
    absurd (long_some bytes now' old' new' limit b (end refl))
any_cutting bytes now now' old old' new new' (Err ReadFault) result' a b limits end end' sound sound' = absurd (sound refl)
any_cutting bytes now now' old old' new new' (Err (TooLong limit)) (Ok _) a b limits end end' sound sound' =
    absurd (fits_or_not bytes now' now old' old new' new limit (sym limits) b a)
any_cutting bytes now now' old old' new new' (Err (TooLong limit)) (Err End) a b limits end end' sound sound' =
    absurd (long_some bytes now old new limit a (end' refl))
any_cutting bytes now now' old old' new new' (Err (TooLong limit)) (Err ReadFault) a b limits end end' sound sound' = absurd (sound' refl)
any_cutting bytes now now' old old' new new' (Err (TooLong limit)) (Err (TooLong limit')) a b limits end end' sound sound' =
    (ap (λ l. Err (TooLong l)) (a.limit_is ∙ limits ∙ sym b.limit_is), a.kept ∙ sym b.kept, tt)
