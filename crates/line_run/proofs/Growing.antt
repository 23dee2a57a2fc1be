-- Lists of chunks that grow by one.
use Rattle.std.proofs.Common.{◌≡◌, ℕ, List, [], ◌∷◌, ◌++◌, refl, sym, ◌∙◌, ap, subst, append_assoc, append-nil}
use Rattle.std.specs.List.{flat_map}
use Rattle.std.proofs.lemmas.List.{map-append}
use Rattle.std.proofs.lemmas.List.Concat.{flat_map-append}
use Rattle.line_run.specs.Chunks.{Chunk, lines_taken, texts_of, with_ends, Path}

pub lines_none : lines_taken [] ≡ []
unfolding lines_taken
lines_none = refl

pub texts_none : texts_of [] ≡ []
unfolding texts_of
texts_none = refl

pub ends_none : with_ends [] ≡ []
unfolding with_ends
ends_none = refl

pub lines_first : (chunk : Chunk) (chunks : List Chunk) → lines_taken (chunk ∷ chunks) ≡ chunk.line ∷ lines_taken chunks
unfolding lines_taken
lines_first chunk chunks = refl

pub texts_first : (chunk : Chunk) (chunks : List Chunk) → texts_of (chunk ∷ chunks) ≡ chunk.text ++ texts_of chunks
unfolding texts_of
texts_first chunk chunks = refl

pub lines_more : (chunks : List Chunk) (chunk : Chunk) → lines_taken (chunks ++ chunk ∷ []) ≡ lines_taken chunks ++ chunk.line ∷ []
unfolding lines_taken
lines_more chunks chunk = map-append (λ (c : Chunk). c.line) chunks (chunk ∷ [])

pub texts_more : (chunks : List Chunk) (chunk : Chunk) → texts_of (chunks ++ chunk ∷ []) ≡ texts_of chunks ++ chunk.text
unfolding texts_of
texts_more chunks chunk = flat_map-append (λ (c : Chunk). c.text) chunks (chunk ∷ []) ∙ ap (λ t. flat_map (λ (c : Chunk). c.text) chunks ++ t) (append-nil chunk.text)

pub ends_more : (lines : List (List ℕ)) (line : List ℕ) → with_ends (lines ++ line ∷ []) ≡ with_ends lines ++ (line ++ 10 ∷ [])
unfolding with_ends
ends_more lines line = flat_map-append (λ (l : List ℕ). l ++ 10 ∷ []) lines (line ∷ []) ∙ ap (λ t. flat_map (λ (l : List ℕ). l ++ 10 ∷ []) lines ++ t) (append-nil (line ++ 10 ∷ []))

-- the lines of one chunk more, in front of others
pub lines_then : (chunks : List Chunk) (chunk : Chunk) (others : List (List ℕ)) → lines_taken chunks ++ chunk.line ∷ others ≡ lines_taken (chunks ++ chunk ∷ []) ++ others
lines_then chunks chunk others = sym (append_assoc (lines_taken chunks) (chunk.line ∷ []) others) ∙ ap (λ ls. ls ++ others) (sym (lines_more chunks chunk))

module _ {R : Type 0} (takes : R → Chunk → R → Type 0) where
  pub path_more : (first state next : R) (chunks : List Chunk) (chunk : Chunk) → Path takes first chunks state → takes state chunk next → Path takes first (chunks ++ chunk ∷ []) next
  path_more first state next [] chunk same taken = (next, subst (λ (s : R). takes s chunk next) (sym same) taken, refl)
  path_more first state next (one ∷ chunks) chunk path taken = (path.0, path.1, path_more path.0 state next chunks chunk path.2 taken)
