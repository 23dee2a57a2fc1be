-- A line of a name and its figures.
use Rattle.std.specs.Prelude.{ℕ, List, [], ◌∷◌, ◌++◌, decimal}
use Rattle.std.specs.List.{flat_map}
use Rattle.bench_lines.specs.declared.line.Figure.{Figure}

abbrev pub figure_text : List ℕ → ℕ → List ℕ
figure_text name number = (32 ∷ []) ++ (name ++ ((32 ∷ []) ++ decimal number))

abbrev pub figure_of : Figure → List ℕ
figure_of figure = figure_text figure.name.now figure.number

abbrev pub line_text : List ℕ → List Figure → List ℕ
line_text name figures = (name ++ flat_map figure_of figures) ++ 10 ∷ []
