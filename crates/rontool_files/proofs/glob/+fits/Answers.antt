use Rattle.std.proofs.Common.{◌≡◌, ◌∙◌, ℕ, Bool, true, false, Some, ap, sym, chars}
use Rattle.rontool_files.specs.Glob.{Stands, ends}
use Rattle.rontool_files.proofs.GlobLemmas.{nothing, no_piece, one_only, one_behind, any_only, any_behind, run_stands, stands_run, run_goes_on, goes_on}
use Rattle.rontool_files.proofs.glob.+fits.Goals.{fits_run-else-ends-via-then-ends+else-fits, fits_run-else-ends-via-else-ends}
use Rattle.rontool_files.proofs.glob.+fits.Goals as goal

pub fits-returns-in_default : goal.fits-returns-in_default
fits-returns-in_default t c = (
  λ is. nothing (chars c.args.glob.now) (chars c.args.text.now) c.in_default.ensures (c.is_ended.ensures.0 is),
  λ h. c.is_ended.ensures.1 (no_piece (chars c.args.glob.now) (chars c.args.text.now) c.in_default.ensures h),
)

pub fits-returns-then-first-wanted : goal.fits-returns-then-first-wanted
fits-returns-then-first-wanted t c =
    let e = c.in-Some.ensures ∙ ap (λ p. Some (p, chars c.in-Some.rest.now)) c.in-Itself.is in (
      λ is. one_only (chars c.args.glob.now) (chars c.in-Some.rest.now) (chars c.args.text.now) (chars c.in-Some-split_first.after.now) c.in-Itself.wanted
          c.in-Some-split_first.first e c.in-Some-split_first.ensures c.if-first-wanted.true (c.fits.ensures.0 is),
      λ h. c.fits.ensures.1 (one_behind (chars c.args.glob.now) (chars c.in-Some.rest.now) (chars c.args.text.now) (chars c.in-Some-split_first.after.now)
          c.in-Itself.wanted c.in-Some-split_first.first e c.in-Some-split_first.ensures h),
    )

pub fits-returns-then-first-ne47 : goal.fits-returns-then-first-ne47
fits-returns-then-first-ne47 t c =
    let e = c.in-Some.ensures ∙ ap (λ p. Some (p, chars c.in-Some.rest.now)) c.in-One.is in (
      λ is. any_only (chars c.args.glob.now) (chars c.in-Some.rest.now) (chars c.args.text.now) (chars c.in-Some-split_first-2.after.now)
          c.in-Some-split_first-2.first e c.in-Some-split_first-2.ensures c.if-first-ne47.true (c.fits-then-first-ne47.ensures.0 is),
      λ h. c.fits-then-first-ne47.ensures.1 (any_behind (chars c.args.glob.now) (chars c.in-Some.rest.now) (chars c.args.text.now)
          (chars c.in-Some-split_first-2.after.now) c.in-Some-split_first-2.first e c.in-Some-split_first-2.ensures h),
    )

pub fits-returns-in-Run : goal.fits-returns-in-Run
fits-returns-in-Run t c =
    let e = c.in-Some.ensures ∙ ap (λ p. Some (p, chars c.in-Some.rest.now)) c.in-Run.is in (
      λ is. run_stands (chars c.args.glob.now) (chars c.in-Some.rest.now) (chars c.args.text.now) c.in-Run.run' e (c.fits_run.ensures.0 is),
      λ h. c.fits_run.ensures.1 (stands_run (chars c.args.glob.now) (chars c.in-Some.rest.now) (chars c.args.text.now) c.in-Run.run' e h),
    )

-- where the run may not end here, or may and the glob behind it doesn't stand for what is left
wrong : (a : Bool) → a ≡ false → a ≡ true → ⊥
wrong a fails holds = let same : false ≡ true = sym fails ∙ holds in absurd (cc)

no_end : (t : ℕ) (c : goal.fits_run-After-fits_run t) → ends c.args.run c.args.last ≡ true → Stands (chars c.args.glob.now) (chars c.args.text.now) → ⊥
no_end t c = elim c.else-ends.branch [
  | fits_run-else-ends-via-then-ends+else-fits w ↦ λ e h. wrong w.fits.result w.if-fits.false (w.fits.ensures.1 h)
  | fits_run-else-ends-via-else-ends w ↦ λ e h. wrong c.ends.result w.if-ends.false (c.ends.ensures ∙ e)
]

pub fits_run-returns-then-takes : goal.fits_run-returns-then-takes
fits_run-returns-then-takes t c = (
  λ is. run_goes_on c.args.run c.args.last c.in-Some.first (chars c.args.glob.now) (chars c.args.text.now) (chars c.in-Some.after.now) c.in-Some.ensures
      (sym c.takes.ensures ∙ c.if-takes.true) (c.fits_run.ensures.0 is),
  λ h. c.fits_run.ensures.1 (goes_on c.args.run c.args.last c.in-Some.first (chars c.args.glob.now) (chars c.args.text.now) (chars c.in-Some.after.now)
      c.in-Some.ensures (no_end t c) h).stands,
)

no_end_else : (t : ℕ) (c : goal.fits_run-Else-takes t) → ends c.args.run c.args.last ≡ true → Stands (chars c.args.glob.now) (chars c.args.text.now) → ⊥
no_end_else t c = elim c.else-ends.branch [
  | fits_run-else-ends-via-then-ends+else-fits w ↦ λ e h. wrong w.fits.result w.if-fits.false (w.fits.ensures.1 h)
  | fits_run-else-ends-via-else-ends w ↦ λ e h. wrong c.ends.result w.if-ends.false (c.ends.ensures ∙ e)
]

pub fits_run-returns-else-takes : goal.fits_run-returns-else-takes
fits_run-returns-else-takes t c = (
  λ is. absurd (wrong c.takes.result c.if-takes.false is),
  λ h. c.takes.ensures ∙ (goes_on c.args.run c.args.last c.in-Some.first (chars c.args.glob.now) (chars c.args.text.now) (chars c.in-Some.after.now)
      c.in-Some.ensures (no_end_else t c) h).takes,
)
