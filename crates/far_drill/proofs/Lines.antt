-- The script's lines, one by one.
use Rattle.std.proofs.Common.{◌≡◌, ℕ, suc, ◌+◌, ◌-◌, ◌<◌, ◌≤◌, [], ◌∷◌, ◌++◌, refl, sym, ◌∙◌, ap, arith, add-one}
use Rattle.far_drill.specs.Script.{ended, first_line, made_lines, stepped, drawn_of, drawn_line, drawn_lines, text_of}
use Rattle.far_drill.specs.Source.{lines_left}
use Rattle.far_drill.specs.declared.script.Place.{Place}

made_none : (place : ℕ) → made_lines place 0 ≡ []
unfolding made_lines
made_none place = refl

made_more : (place more : ℕ) → made_lines place (suc more) ≡ first_line place ∷ made_lines (place + 1) more
unfolding made_lines
made_more place more = rw add-one refl

drawn_none : (state number : ℕ) → drawn_lines state number 0 ≡ []
unfolding drawn_lines
drawn_none state number = refl

drawn_more : (state number more : ℕ)
    → drawn_lines state number (suc more) ≡ drawn_line (number + 1) (drawn_of (stepped state)) ∷ drawn_lines (stepped state) (number + 1) more
unfolding drawn_lines
drawn_more state number more = rw add-one refl

-- the next line of a place, and what is left after it
pub next_first : (place : Place) → place.first < 12
    → text_of (lines_left place) ≡ ended (first_line place.first) ++ text_of (lines_left (record place { first = place.first + 1 }))
next_first place more =
    let drawn = drawn_lines place.state place.drawn (place.size - place.drawn) in
    let count : 12 - place.first ≡ suc (12 - (place.first + 1)) = omega (arith, more) in
    ap (λ n. text_of (made_lines place.first n ++ drawn)) count ∙ ap (λ lines. text_of (lines ++ drawn)) (made_more place.first (12 - (place.first + 1)))

module _ (place : Place) (least : 12 ≤ place.first) where
  no_first : made_lines place.first (12 - place.first) ≡ []
  no_first = let none : 12 - place.first ≡ 0 = omega (arith, least) in ap (made_lines place.first) none ∙ made_none place.first

  pub next_drawn : (state : ℕ) → state ≡ stepped place.state → place.drawn < place.size
      → text_of (lines_left place) ≡ ended (drawn_line (place.drawn + 1) (drawn_of state)) ++ text_of (lines_left (record place { drawn = place.drawn + 1; state = state }))
  next_drawn state is_state more =
      let after = place.size - (place.drawn + 1) in
      let line = ended (drawn_line (place.drawn + 1) (drawn_of (stepped place.state))) in
      let count : place.size - place.drawn ≡ suc after = omega (arith, more) in
      ap (λ lines. text_of (lines ++ drawn_lines place.state place.drawn (place.size - place.drawn))) no_first
      ∙ ap (λ n. text_of (drawn_lines place.state place.drawn n)) count
      ∙ ap text_of (drawn_more place.state place.drawn after)
      ∙ ap (λ lines. line ++ text_of (lines ++ drawn_lines (stepped place.state) (place.drawn + 1) after)) (sym no_first)
      ∙ ap (λ s. ended (drawn_line (place.drawn + 1) (drawn_of s)) ++ text_of (lines_left (record place { drawn = place.drawn + 1; state = s }))) (sym is_state)

  pub none_left : place.size ≤ place.drawn → lines_left place ≡ []
  none_left done =
      let count : place.size - place.drawn ≡ 0 = omega (arith, done) in
      ap (λ lines. lines ++ drawn_lines place.state place.drawn (place.size - place.drawn)) no_first
      ∙ ap (drawn_lines place.state place.drawn) count ∙ drawn_none place.state place.drawn
