-- A step inside of a block comment, and line comments that no LF ends.
use Rattle.std.specs.Prelude.{ℕ, zero, suc, Bool, ◌&&◌, drop, Option, Some, None, chars, List}
use Rattle.std.specs.Borrow.{Bor}
use Rattle.ron_spec_words.specs.Characters.{Text}
use Rattle.ron_spec_words.specs.Gap.{in_line, opens_line, after_block}
use Rattle.ron_spec_words.specs.Runs.{after_run}
use Rattle.ron_lex_text.specs.Stretch.{is_ended}
use Rattle.ron_lex.specs.declared.gap.Mark.{Mark}
use Rattle.ron_lex.specs.declared.gap.Mark.TheVariants.{Opens, Closes, Other}

-- what follows the end of the comment, where n more are open around it, behind this mark and before this text
abbrev pub behind_mark : ℕ → Mark → Text → Option Text
behind_mark n Opens s = after_block (suc n) s
behind_mark zero Closes s = Some s
behind_mark (suc n) Closes s = after_block n s
behind_mark n Other s = after_block n s

-- the same behind a mark that was found; none where the text has ended
abbrev pub goes_on : ℕ → Option (Mark × Bor (List ℕ)) → Option Text
goes_on n None = None
goes_on n (Some p) = behind_mark n p.0 (chars p.1.now)

-- the text begins with `//`, and holds no LF behind it
abbrev pub opens_open_line : Text → Bool
opens_open_line s = opens_line s && is_ended (after_run in_line (drop 2 s))
