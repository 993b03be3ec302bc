-- A value behind a `&` is read of nowhere: that it is shared tells of its numbers.
use mathlib.Core.Path.{refl}
use mathlib.Core.List.{[], ◌∷◌}
use mir.Syntax.{named}
use mir.Val.{vunit}
use base.Logic.{guard_i}
use base.Fml.{ftrue, flft}
use types.Logic.{sem}
use types.Kit.{‵, ◌⊛◌, ◌$◌, ◌∵◌, !, qed, given, learn, move, keep, split, use1, join, fjoin, feq_i, suffices, done}
use types.Run.{enter, of_opd, unit_lit, returns}
use types.ByLocal.{alloc_all, pass_all, free_all, look_at, sets}
use contract.Monad.{fact_use}
use denote.Builtin.{RefOf}
use denote.Exit.{yes}
use denote.Ref.{ShrRef, shr_vals, shr_Tells}
use denote.Signature.{plain}
use denote.Steps.{nothing}
use denote.Triple.Walked.{Stays, walk_of, says, stay_dropped, Goes-dropped, ends_at}
use Rattle.std.proofs.raw_atomic.Walks.{proved}
use Rattle.ron_value.specs.contracts.value.Value.{the_row as Row}
use Rattle.ron_spec_grammar.specs.Values.Trees.{HasNumbersInWidth}
use Rattle.ron_value.specs.View.{tree_of}
use Rattle.ron_types.specs.contracts.types.widths.numbers_fit as f
use Rattle.ron_types.proofs.WidthLemmas.{numbers_learnt}
use Rattle.ron_types.proofs.types.widths.numbers_fit.Statement.{statement}
use Rattle.ron_types.proofs.types.widths.numbers_fit.Code as code

abbrev stayed : Stays f.ended.signature.params f.ended.kept
stayed = (stay_dropped _ yes, tt)

pub numbers_fit_spec : {M : Type 1} → statement M
numbers_fit_spec {M} 𝓤 𝓛 𝓜 𝓡 wired =
    let c = f.clauses 𝓛 𝓜.mem 𝓡.returns in let W = walk_of 𝓛 f.ended stayed c in
    proved 𝓛 f.ended stayed c 𝓜 𝓡 (Goes-dropped 𝓛 1 (RefOf (0 ∷ []) tt (plain (λ _. Row)) (λ _. tt)) yes (λ κs x w. refl), tt)
    f.Key.name code.function (code.unfolded 𝓤 𝓛.H 𝓜 𝓡 wired)
    (λ κs. (shr_vals, tt)) (λ κs. (shr_Tells (named 0) κs.0 Row, tt)) (λ κs qs bounds a _ are.
    let κ = κs.0 in let q = qs.0 in let r = a.0 in let vs = shr_vals r in
    let Fits = HasNumbersInWidth (tree_of r.now) in
    let y : W.Ghost = ((κs, qs, bounds, a, (vs, tt)), tt) in
    let Ref = (ShrRef (named 0) κ Row).own_val r vs in
    qed 𝓛 (((‵ (flft κ q) ⊛ ‵ ftrue) ⊛ ‵ Ref ⊛ ‵ ftrue) ∷ ‵ ftrue ∷ []) ∵
    split ! $ split ! $ move ! (2 ∷ []) $ split ! $
    use1 𝓛 (given Fits (‵ Ref)) (fact_use 𝓤 Fits ((numbers_learnt (named 0) κ r vs).go M 𝓤 𝓛) (guard_i 𝓤 Fits (sem 𝓛 Ref))) $ learn ! (λ fits.
    keep ! (2 ∷ []) $
    -- [the token]
    enter ! _ _ _ _ _ $ alloc_all ! (λ l. pass_all ! refl ((tt, tt), tt) $
    sets ! (of_opd ! (unit_lit !)) refl (tt, tt) $
    returns ! (look_at ! 0 refl) $ free_all ! refl $
    suffices ! _ (ends_at 𝓛 f.ended stayed c y vunit tt (tt, tt) (tt, tt)) $ says ! fits $
    feq_i ! _ (vunit ∷ []) _ refl $ nothing ! $ nothing ! $ fjoin ! $ join ! $ nothing ! $ move ! (2 ∷ 0 ∷ []) $ join ! $ join ! $ done !)))
