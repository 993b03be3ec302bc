-- Round brackets in texts of the same words: the unit, and a word directly before one.
use Rattle.std.proofs.Common.{◌≡◌, true, [], ◌∷◌, ◌++◌, refl, sym, ap, subst, ◌∙◌}
use Rattle.std.proofs.lemmas.List.{append_cancel_right}
use Rattle.ron_spec_words.specs.Characters.{Text}
use Rattle.ron_spec_words.specs.Runs.{begins}
use Rattle.ron_spec_words.specs.Gap.{LongGap, none}
use Rattle.ron_spec_words.specs.Lang.{done}
use Rattle.ron_spec_words.proofs.Gaps.{skip-other}
use Rattle.ron_format_words.specs.Alike.{is_solid, a_word, may_replace, anywhere, Alike}
use Rattle.ron_format_words.specs.Statement.{KeepsUnits, KeepsNames}
use Rattle.ron_format_words.proofs.Steps.{after_mark, after_word}
use Rattle.ron_format_words.proofs.Closed.{plain_step, same_rest, moves_whole}
use Rattle.ron_format_words.proofs.Inner.{ended_is, moves_brackets}

pub keeps_units : KeepsUnits
keeps_units s u = moves_whole (moves_brackets done) s u done

-- no gap comes before `(`
none_comes : (gap instead rest : Text) → gap ≡ [] → may_replace a_word gap instead (40 ∷ rest) ≡ true → instead ≡ []
none_comes gap instead rest e m = ended_is instead (subst (λ g. may_replace a_word g instead (40 ∷ rest) ≡ true) e m)

begins_so : (w s : Text) → begins is_solid w ≡ true → begins is_solid (w ++ s) ≡ true
begins_so [] s h = absurd (cc)
begins_so (c ∷ w) s h = h

pub keeps_names : KeepsNames
keeps_names w rest v h e r =
    let x = after_word (w ++ 40 ∷ rest) (40 ∷ rest) v (begins_so w (40 ∷ rest) h) e r in
    let long : LongGap [] (40 ∷ rest) = record { is_gap = none; longest = skip-other 40 rest refl refl } in
    let g = plain_step [] (40 ∷ rest) refl long refl refl x.step in
    let same : 40 ∷ rest ≡ x.rest = same_rest [] g.gap (40 ∷ rest) x.rest g.split long g.is_gap in
    let no_gap : g.gap ≡ [] = sym (append_cancel_right [] g.gap x.rest (sym same ∙ g.split)) in
    let no_other : g.instead ≡ [] = none_comes g.gap g.instead rest no_gap (subst (λ y. may_replace a_word g.gap g.instead y ≡ true) (sym same) g.may) in
    let y = after_mark 40 rest x.other refl (subst (λ z. Alike anywhere z x.other) (sym same) x.alike) in
    let word : w ≡ x.stretch = append_cancel_right w x.stretch (40 ∷ rest) x.same in
    (y.left, x.split ∙ ap (λ z. z ++ x.left) (sym word) ∙ ap (λ z. w ++ z) (g.splits ∙ ap (λ z. z ++ x.other) no_other ∙ y.split))
