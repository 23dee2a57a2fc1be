-- Moves that are put user by user.
use Rattle.std.proofs.Common.{◌≡◌, ℕ, ◌+◌, List, [], ◌∷◌, ◌++◌, map, refl, sym, ◌∙◌, ap, append_assoc, append-nil, arith}
use Rattle.std.specs.List.{flat_map, range_with_len}
use Rattle.std.proofs.lemmas.Grind.{flat_map-append}
use Rattle.std.proofs.lemmas.List.FromFn.{map-range_with_len_more}
use Rattle.block_pool.specs.declared.due.DueMove.{DueMove}

map-id : (xs : List ℕ) → map (λ n. n) xs ≡ xs
map-id [] = refl
map-id (x ∷ xs) = ap (λ l. x ∷ l) (map-id xs)

range-more : (n : ℕ) → range_with_len 0 (n + 1) ≡ range_with_len 0 n ++ n ∷ []
range-more n =
    let from : 0 + n ≡ n = omega arith in
    sym (map-id (range_with_len 0 (n + 1))) ∙ map-range_with_len_more (λ m. m) 0 n n from ∙ ap (λ l. l ++ n ∷ []) (map-id (range_with_len 0 n))

-- the next user's moves stand after those of the users before it
pub put_more : (each : ℕ → List DueMove) (begun now grown : List DueMove) (user : ℕ) → now ≡ begun ++ flat_map each (range_with_len 0 user) → grown ≡ now ++ each user
    → grown ≡ begun ++ flat_map each (range_with_len 0 (user + 1))
put_more each begun now grown user before grows =
    let put = flat_map each (range_with_len 0 user) in
    grows ∙ ap (λ l. l ++ each user) before ∙ append_assoc begun put (each user)
    ∙ ap (λ l. begun ++ l) (ap (λ l. put ++ l) (sym (append-nil (each user))) ∙ sym (flat_map-append each (range_with_len 0 user) (user ∷ [])) ∙ ap (flat_map each) (sym (range-more user)))
