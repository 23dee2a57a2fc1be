-- Laws of what is sent.
use Rattle.std.proofs.Common.{◌≡◌, ℕ, ◌+◌, ◌<◌, List, [], ◌∷◌, ◌++◌, length, take, drop, get_or, refl, sym, ◌∙◌, ap, subst, append_assoc, append-nil, take-append-drop}
use Rattle.std.specs.Fmt.{decimal}
use Rattle.std.specs.List.{flat_map}
use Rattle.std.proofs.lemmas.Grind.{flat_map-append}
use Rattle.std.proofs.lemmas.List.{take_more}
use Rattle.far_io.specs.Adds.{Adds, AddsPrefix}
use Rattle.far_io.specs.Sends.{Sends, spaced}
use Rattle.far_io.proofs.Adds.{adds_nothing, adds_more, adds_equal}

module _ {O : Type 0} (took : O → O → List ℕ → Type 0) where
  pub sends_nothing : (sink : O) (held : List ℕ) → Sends took sink sink held held []
  sends_nothing sink held = record { sent = []; adds = adds_nothing took sink; whole = sym (append-nil held) }

  pub sends_more : (a b c : O) (held next last xs ys : List ℕ) → Sends took a b held next xs → Sends took b c next last ys → Sends took a c held last (xs ++ ys)
  sends_more a b c held next last xs ys first second = record {
    sent = first.sent ++ second.sent;
    adds = adds_more took a b c first.sent second.sent first.adds second.adds;
    whole = append_assoc first.sent second.sent last ∙ ap (λ t. first.sent ++ t) second.whole ∙ sym (append_assoc first.sent next ys)
        ∙ ap (λ t. t ++ ys) first.whole ∙ append_assoc held xs ys;
  }

  pub sends_held : (sink : O) (held next bytes : List ℕ) → next ≡ held ++ bytes → Sends took sink sink held next bytes
  sends_held sink held next bytes grows = record { sent = []; adds = adds_nothing took sink; whole = grows }

  pub sends_flush : (a b : O) (held : List ℕ) → Adds took a b held → Sends took a b held [] []
  sends_flush a b held adds = record { sent = held; adds = adds; whole = refl }

  pub prefix_after : (a b c : O) (held next xs ys : List ℕ) → Sends took a b held next xs → AddsPrefix took b c (next ++ ys) → AddsPrefix took a c (held ++ (xs ++ ys))
  prefix_after a b c held next xs ys first second = record {
    sent = first.sent ++ second.sent;
    unsent = second.unsent;
    whole = append_assoc first.sent second.sent second.unsent ∙ ap (λ t. first.sent ++ t) second.whole ∙ sym (append_assoc first.sent next ys)
        ∙ ap (λ t. t ++ ys) first.whole ∙ append_assoc held xs ys;
    adds = adds_more took a b c first.sent second.sent first.adds second.adds;
  }

  pub prefix_longer : (a b : O) (xs ys : List ℕ) → AddsPrefix took a b xs → AddsPrefix took a b (xs ++ ys)
  prefix_longer a b xs ys fault = record {
    sent = fault.sent;
    unsent = fault.unsent ++ ys;
    whole = sym (append_assoc fault.sent fault.unsent ys) ∙ ap (λ t. t ++ ys) fault.whole;
    adds = fault.adds;
  }

  pub prefix_part : (a b : O) (bytes : List ℕ) (done : ℕ) → Adds took a b (take done bytes) → AddsPrefix took a b bytes
  prefix_part a b bytes done adds = record { sent = take done bytes; unsent = drop done bytes; whole = take-append-drop done bytes; adds = adds }

  pub prefix_equal : (a b : O) (xs ys : List ℕ) → xs ≡ ys → AddsPrefix took a b xs → AddsPrefix took a b ys
  prefix_equal a b xs ys same fault = subst (AddsPrefix took a b) same fault

pub spaced_append : (xs ys : List ℕ) → spaced (xs ++ ys) ≡ spaced xs ++ spaced ys
unfolding spaced
spaced_append [] ys = refl
spaced_append (x ∷ xs) ys = ap (λ t. (32 ∷ decimal x) ++ t) (spaced_append xs ys) ∙ sym (append_assoc (32 ∷ decimal x) (spaced xs) (spaced ys))

pub spaced_one : (n : ℕ) → spaced (n ∷ []) ≡ 32 ∷ decimal n
unfolding spaced
spaced_one n = append-nil (32 ∷ decimal n)

pub spaced_none : spaced [] ≡ []
unfolding spaced
spaced_none = refl

pub spaced_more : (numbers : List ℕ) (i : ℕ) → i < length numbers → spaced (take (i + 1) numbers) ≡ spaced (take i numbers) ++ (32 ∷ decimal (get_or numbers i 0))
spaced_more numbers i here = ap spaced (take_more numbers i 0 here) ∙ spaced_append (take i numbers) (get_or numbers i 0 ∷ []) ∙ ap (λ t. spaced (take i numbers) ++ t) (spaced_one (get_or numbers i 0))

module _ {O : Type 0} (took : O → O → List ℕ → Type 0) where
  pub sends_equal : (a b : O) (held next xs ys : List ℕ) → xs ≡ ys → Sends took a b held next xs → Sends took a b held next ys
  sends_equal a b held next xs ys same sends = subst (Sends took a b held next) same sends

  pub sends_number : (a b c : O) (held next last grown numbers : List ℕ) (i : ℕ) → Sends took a b held next (spaced (take i numbers)) → Sends took b c next last []
      → grown ≡ (last ++ 32 ∷ []) ++ decimal (get_or numbers i 0) → i < length numbers → Sends took a c held grown (spaced (take (i + 1) numbers))
  sends_number a b c held next last grown numbers i first room grows here =
      let one = 32 ∷ decimal (get_or numbers i 0) in
      let made = sends_more took a b c held next last (spaced (take i numbers)) [] first room in
      let put = sends_held took c last grown one (grows ∙ append_assoc last (32 ∷ []) (decimal (get_or numbers i 0))) in
      sends_equal a c held grown ((spaced (take i numbers) ++ []) ++ one) (spaced (take (i + 1) numbers))
      (ap (λ t. t ++ one) (append-nil (spaced (take i numbers))) ∙ sym (spaced_more numbers i here))
      (sends_more took a c c held last grown (spaced (take i numbers) ++ []) one made put)

  pub prefix_number : (a b c : O) (held next numbers : List ℕ) (i : ℕ) → Sends took a b held next (spaced (take i numbers)) → AddsPrefix took b c next
      → AddsPrefix took a c (held ++ spaced numbers)
  prefix_number a b c held next numbers i first fault =
      prefix_equal took a c (held ++ (spaced (take i numbers) ++ spaced (drop i numbers))) (held ++ spaced numbers)
      (ap (λ t. held ++ t) (sym (spaced_append (take i numbers) (drop i numbers)) ∙ ap spaced (take-append-drop i numbers)))
      (prefix_after took a b c held next (spaced (take i numbers)) (spaced (drop i numbers)) first (prefix_longer took b c next (spaced (drop i numbers)) fault))

module _ {O : Type 0} (took : O → O → List ℕ → Type 0) where
  -- what is held goes on with these bytes, after room was made for them
  pub held_more : (a b : O) (held next last bytes : List ℕ) → Sends took a b held next [] → last ≡ next ++ bytes → Sends took a b held last bytes
  held_more a b held next last bytes room grows =
      sends_more took a b b held next last [] bytes room (sends_held took b next last bytes grows)

  -- a call failed while it sent `ys`, after `xs` and before `zs`
  pub fault_within : (a b c : O) (held next xs ys zs whole failing : List ℕ) → Sends took a b held next xs → AddsPrefix took b c failing
      → failing ≡ next ++ ys → whole ≡ (xs ++ ys) ++ zs → AddsPrefix took a c (held ++ whole)
  fault_within a b c held next xs ys zs whole failing first fault failing_is whole_is =
      let within = prefix_equal took b c ((next ++ ys) ++ zs) (next ++ (ys ++ zs)) (append_assoc next ys zs)
      (prefix_longer took b c (next ++ ys) zs (prefix_equal took b c failing (next ++ ys) failing_is fault)) in
      prefix_equal took a c (held ++ (xs ++ (ys ++ zs))) (held ++ whole)
      (ap (λ t. held ++ t) (sym (append_assoc xs ys zs) ∙ sym whole_is)) (prefix_after took a b c held next xs (ys ++ zs) first within)

  -- all that was sent or held went to the sink
  pub all_sent : (a b c : O) (held bytes : List ℕ) → Sends took a b [] held bytes → Adds took b c held → Adds took a c bytes
  all_sent a b c held bytes sends adds = adds_equal took a c (sends.sent ++ held) bytes sends.whole (adds_more took a b c sends.sent held sends.adds adds)

  -- the same where a piece began with nothing, and was flushed
  pub flushed : (a b c : O) (start held bytes : List ℕ) → start ≡ [] → Sends took a b start held bytes → Adds took b c held → Adds took a c bytes
  flushed a b c start held bytes empty sends adds = all_sent a b c held bytes (subst (λ t. Sends took a b t held bytes) empty sends) adds

  pub flush_failed : (a b c : O) (start held bytes : List ℕ) → start ≡ [] → Sends took a b start held bytes → AddsPrefix took b c held → AddsPrefix took a c bytes
  flush_failed a b c start held bytes empty sends fault =
      fault_within a b c [] held bytes [] [] bytes held (subst (λ t. Sends took a b t held bytes) empty sends) fault (sym (append-nil held))
      (sym (append-nil (bytes ++ []) ∙ append-nil bytes))

pub flat_map_take : {X A : Type 0} (f : X → List A) (xs : List X) (i : ℕ) (d : X) → i < length xs
    → flat_map f (take (i + 1) xs) ≡ flat_map f (take i xs) ++ f (get_or xs i d)
flat_map_take f xs i d here =
    ap (flat_map f) (take_more xs i d here) ∙ flat_map-append f (take i xs) (get_or xs i d ∷ []) ∙ ap (λ t. flat_map f (take i xs) ++ t) (append-nil (f (get_or xs i d)))

pub flat_map_parted : {X A : Type 0} (f : X → List A) (xs : List X) (i : ℕ) → flat_map f xs ≡ flat_map f (take i xs) ++ flat_map f (drop i xs)
flat_map_parted f xs i = ap (flat_map f) (sym (take-append-drop i xs)) ∙ flat_map-append f (take i xs) (drop i xs)

-- the texts of rows, one after another
module _ {O X : Type 0} (took : O → O → List ℕ → Type 0) (text : X → List ℕ) where
  pub sends_row : (a b c : O) (held next last grown : List ℕ) (rows : List X) (i : ℕ) (d row : X) → Sends took a b held next (flat_map text (take i rows))
      → Sends took b c next last [] → grown ≡ last ++ text row → row ≡ get_or rows i d → i < length rows → Sends took a c held grown (flat_map text (take (i + 1) rows))
  sends_row a b c held next last grown rows i d row first room grows is here =
      sends_equal took a c held grown (flat_map text (take i rows) ++ text row) (flat_map text (take (i + 1) rows))
      (ap (λ r. flat_map text (take i rows) ++ text r) is ∙ sym (flat_map_take text rows i d here))
      (sends_more took a b c held next grown (flat_map text (take i rows)) (text row) first (held_more took b c next last grown (text row) room grows))

  pub row_failed : (a b c : O) (held next : List ℕ) (rows : List X) (i : ℕ) → Sends took a b held next (flat_map text (take i rows)) → AddsPrefix took b c next
      → AddsPrefix took a c (held ++ flat_map text rows)
  row_failed a b c held next rows i first fault =
      fault_within took a b c held next (flat_map text (take i rows)) [] (flat_map text (drop i rows)) (flat_map text rows) next first fault (sym (append-nil next))
      (flat_map_parted text rows i ∙ ap (λ t. t ++ flat_map text (drop i rows)) (sym (append-nil (flat_map text (take i rows)))))
