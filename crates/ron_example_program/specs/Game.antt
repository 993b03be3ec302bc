-- The names of the fields of a game's configuration.
use Rattle.std.specs.Prelude.{List, [], ◌∷◌, codes}
use Rattle.ron.specs.Characters.{Text}

abbrev pub window_names : List Text
window_names = codes "width" ∷ codes "height" ∷ codes "fullscreen" ∷ []

abbrev pub game_names : List Text
game_names = codes "title" ∷ codes "window" ∷ codes "keys" ∷ codes "lives" ∷ []
