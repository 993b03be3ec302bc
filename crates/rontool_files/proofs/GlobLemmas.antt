-- Which texts a glob stands for, by its first piece.
use Rattle.std.proofs.Common.{rules, refl, ◌≡◌, ◌∙◌, ◌++◌, ◌∷◌, [], ℕ, Bool, true, false, ◌&&◌, Some, None, ap, sym, subst}
use Rattle.rontool_files.specs.declared.glob.Piece.{Piece}
use Rattle.rontool_files.specs.declared.glob.Piece.TheVariants as piece
use Rattle.rontool_files.specs.declared.glob.Run.{Run}
use Rattle.rontool_files.specs.declared.glob.Run.TheVariants as run
use Rattle.rontool_files.specs.Glob.{Text, Stands, StandsFor, StandsRun, first_piece, is_run, ends, takes, is_in_name, slash}
use Rattle.rontool_files.specs.Glob.Stands.{ended, on}

-- A text of which a piece stands for a front, and a glob for what is behind it.
pub record Begins (s : Text) (q : Piece × Text) : Type 0 where
  pub front : Text
  pub behind : Text
  pub is : s ≡ front ++ behind
  pub stands_for : StandsFor q.0 front
  pub stands : Stands q.1 behind

same_piece : (p q : Piece × Text) → Some p ≡ Some q → p ≡ q
same_piece p q e = cc

pub begins : (glob s : Text) (q : Piece × Text) → first_piece glob ≡ Some q → Stands glob s → Begins s q
begins _ _ q e ended = absurd (cc)
begins _ _ q e (on glob rest p front s f fits h) =
    subst (λ q. Begins (front ++ s) q) (same_piece (p, rest) q (sym f ∙ e)) (record { front = front; behind = s; is = refl; stands_for = fits; stands = h })

-- A glob of no pieces stands for the empty text alone.
pub no_piece : (glob s : Text) → glob ≡ [] → Stands glob s → s ≡ []
no_piece _ _ e ended = refl
no_piece _ _ e (on glob rest p front s f fits h) = let none : None ≡ Some (p, rest) = ap first_piece (sym e) ∙ f in absurd (cc)

pub nothing : (glob s : Text) → glob ≡ [] → s ≡ [] → Stands glob s
nothing glob s e f = rw (e, f) ended

-- One character, by itself.
pub one_only : (glob rest s t : Text) (c d : ℕ) → first_piece glob ≡ Some (piece.Itself c, rest) → s ≡ d ∷ t → d ≡ c → Stands rest t → Stands glob s
one_only glob rest s t c d e is same h = rw is (on glob rest (piece.Itself c) (d ∷ []) t e (ap (λ x. x ∷ []) same) h)

behind_is : (s front behind t : Text) (c d : ℕ) → s ≡ d ∷ t → s ≡ front ++ behind → front ≡ c ∷ [] → behind ≡ t
behind_is s front behind t c d is split one = let same : d ∷ t ≡ c ∷ behind = sym is ∙ split ∙ ap (λ f. f ++ behind) one in cc

first_is : (s front behind t : Text) (c d : ℕ) → s ≡ d ∷ t → s ≡ front ++ behind → front ≡ c ∷ [] → c ≡ d
first_is s front behind t c d is split one = let same : d ∷ t ≡ c ∷ behind = sym is ∙ split ∙ ap (λ f. f ++ behind) one in cc

pub one_behind : (glob rest s t : Text) (c d : ℕ) → first_piece glob ≡ Some (piece.Itself c, rest) → s ≡ d ∷ t → Stands glob s → Stands rest t
one_behind glob rest s t c d e is h =
    let b = begins glob s (piece.Itself c, rest) e h in subst (λ u. Stands rest u) (behind_is s b.front b.behind t c d is b.is b.stands_for) b.stands

pub one_first : (glob rest s t : Text) (c d : ℕ) → first_piece glob ≡ Some (piece.Itself c, rest) → s ≡ d ∷ t → Stands glob s → d ≡ c
one_first glob rest s t c d e is h =
    let b = begins glob s (piece.Itself c, rest) e h in sym (first_is s b.front b.behind t c d is b.is b.stands_for)

pub one_of_none : (glob rest s : Text) (c : ℕ) → first_piece glob ≡ Some (piece.Itself c, rest) → s ≡ [] → Stands glob s → ⊥
one_of_none glob rest s c e is h =
    let b = begins glob s (piece.Itself c, rest) e h in
    let none : [] ≡ c ∷ b.behind = sym is ∙ b.is ∙ ap (λ f. f ++ b.behind) b.stands_for in absurd (cc)

-- Any character that is no slash.
in_name : (c : ℕ) → (c ≡ slash → ⊥) → is_in_name c ≡ true
in_name c apart = grind (rules)

no_slash : (c : ℕ) → is_in_name c ≡ true → c ≡ slash → ⊥
no_slash c named same = grind (rules)

pub any_only : (glob rest s t : Text) (d : ℕ) → first_piece glob ≡ Some (piece.One, rest) → s ≡ d ∷ t → (d ≡ slash → ⊥) → Stands rest t → Stands glob s
any_only glob rest s t d e is apart h = rw is (on glob rest piece.One (d ∷ []) t e (d, refl, in_name d apart) h)

pub any_behind : (glob rest s t : Text) (d : ℕ) → first_piece glob ≡ Some (piece.One, rest) → s ≡ d ∷ t → Stands glob s → Stands rest t
any_behind glob rest s t d e is h =
    let b = begins glob s (piece.One, rest) e h in
    subst (λ u. Stands rest u) (behind_is s b.front b.behind t b.stands_for.0 d is b.is b.stands_for.1) b.stands

pub any_first : (glob rest s t : Text) (d : ℕ) → first_piece glob ≡ Some (piece.One, rest) → s ≡ d ∷ t → Stands glob s → d ≡ slash → ⊥
any_first glob rest s t d e is h same =
    let b = begins glob s (piece.One, rest) e h in
    no_slash b.stands_for.0 b.stands_for.2 (first_is s b.front b.behind t b.stands_for.0 d is b.is b.stands_for.1 ∙ same)

pub any_of_none : (glob rest s : Text) → first_piece glob ≡ Some (piece.One, rest) → s ≡ [] → Stands glob s → ⊥
any_of_none glob rest s e is h =
    let b = begins glob s (piece.One, rest) e h in
    let none : [] ≡ b.stands_for.0 ∷ b.behind = sym is ∙ b.is ∙ ap (λ f. f ++ b.behind) b.stands_for.1 in absurd (cc)

-- A run of characters.
pub run_stands : (glob rest s : Text) (r : Run) → first_piece glob ≡ Some (piece.Run r, rest) → StandsRun r slash rest s → Stands glob s
run_stands glob rest s r e h = rw h.is (on glob rest (piece.Run r) h.front h.behind e h.run h.stands)

pub stands_run : (glob rest s : Text) (r : Run) → first_piece glob ≡ Some (piece.Run r, rest) → Stands glob s → StandsRun r slash rest s
stands_run glob rest s r e h =
    let b = begins glob s (piece.Run r, rest) e h in record { front = b.front; behind = b.behind; is = b.is; run = b.stands_for; stands = b.stands }

run_on : (r : Run) (last c : ℕ) (s : Text) → is_run r last (c ∷ s) ≡ (takes r c && is_run r c s)
run_on run.Name last c s = refl
run_on run.Any last c s = refl
run_on run.Folders last c s = refl

both : (a b : Bool) → a ≡ true → b ≡ true → (a && b) ≡ true
both a b e f = rw (e, f) refl

first_of : (a b : Bool) → (a && b) ≡ true → a ≡ true
first_of true b e = refl
first_of false b e = e

second_of : (a b : Bool) → (a && b) ≡ true → b ≡ true
second_of true b e = e
second_of false b e = absurd (cc)

-- A run ends here, or goes on by a character.
pub run_ends : (r : Run) (last : ℕ) (glob s : Text) → ends r last ≡ true → Stands glob s → StandsRun r last glob s
run_ends r last glob s e h = record { front = []; behind = s; is = refl; run = e; stands = h }

pub run_goes_on : (r : Run) (last d : ℕ) (glob s t : Text) → s ≡ d ∷ t → takes r d ≡ true → StandsRun r d glob t → StandsRun r last glob s
run_goes_on r last d glob s t is e h = record {
  front = d ∷ h.front;
  behind = h.behind;
  is = is ∙ ap (λ u. d ∷ u) h.is;
  run = run_on r last d h.front ∙ both (takes r d) (is_run r d h.front) e h.run;
  stands = h.stands;
}

-- A run that doesn't end here goes on.
pub record GoesOn (r : Run) (d : ℕ) (glob t : Text) : Type 0 where
  pub takes : takes r d ≡ true
  pub stands : StandsRun r d glob t

goes_on_by : (r : Run) (last d : ℕ) (glob s t front behind : Text) → s ≡ d ∷ t → (ends r last ≡ true → Stands glob s → ⊥) → s ≡ front ++ behind
    → is_run r last front ≡ true → Stands glob behind → GoesOn r d glob t
goes_on_by r last d glob s t [] behind is no_end split run h = absurd (no_end run (rw split h))
goes_on_by r last d glob s t (c ∷ front) behind is no_end split run h =
    let same : d ∷ t ≡ c ∷ (front ++ behind) = sym is ∙ split in
    let first : c ≡ d = cc in
    let rest : t ≡ front ++ behind = cc in
    let parts : (takes r c && is_run r c front) ≡ true = sym (run_on r last c front) ∙ run in
    record {
      takes = sym (ap (λ x. takes r x) first) ∙ first_of (takes r c) (is_run r c front) parts;
      stands = record {
        front = front;
        behind = behind;
        is = rest;
        run = sym (ap (λ x. is_run r x front) first) ∙ second_of (takes r c) (is_run r c front) parts;
        stands = h;
      };
    }

pub goes_on : (r : Run) (last d : ℕ) (glob s t : Text) → s ≡ d ∷ t → (ends r last ≡ true → Stands glob s → ⊥) → StandsRun r last glob s → GoesOn r d glob t
goes_on r last d glob s t is no_end h = goes_on_by r last d glob s t h.front h.behind is no_end h.is h.run h.stands

ends_by : (r : Run) (last : ℕ) (glob s front behind : Text) → s ≡ [] → (ends r last ≡ true → Stands glob s → ⊥) → s ≡ front ++ behind
    → is_run r last front ≡ true → Stands glob behind → ⊥
ends_by r last glob s [] behind is no_end split run h = no_end run (rw split h)
ends_by r last glob s (c ∷ front) behind is no_end split run h = let none : [] ≡ c ∷ (front ++ behind) = sym is ∙ split in absurd (cc)

pub ends_at_last : (r : Run) (last : ℕ) (glob s : Text) → s ≡ [] → (ends r last ≡ true → Stands glob s → ⊥) → StandsRun r last glob s → ⊥
ends_at_last r last glob s is no_end h = ends_by r last glob s h.front h.behind is no_end h.is h.run h.stands
