-- Gathered pieces, one behind the other.
use Rattle.std.proofs.Common.{ℕ, Bool, Option, Result, Ok, Err, List, [], ◌++◌, refl, sym, ap, ◌∙◌, append_assoc, append-nil}
use Rattle.std.specs.Borrow.{GName}
use Rattle.std.specs.Result.{MatchResult}
use Rattle.ron_base.specs.declared.error.Error.{Error}
use Rattle.std.proofs.KnownBytes.{Appends-nil, Appends-trans}
use Rattle.ron_base_device.specs.declared.gathered.Gathered.{Gathered}
use Rattle.ron_base_device.specs.Gathered.{Gathers, Loses, held, sink_of}

module _ {S : Type 0} {failed : S → Bool} {contents : S → Option (List ℕ)} {device : S → Option GName} where
  pub gathers_nothing : (g : Gathered S) → Gathers failed contents device g [] g
  gathers_nothing g =
      record { pushed = []; whole = append-nil (held g); taken = Appends-nil (contents (sink_of g)); kept = refl; same = refl; same_sink = refl }

  pub gathers_both : {g h i : Gathered S} {a b : List ℕ} → Gathers failed contents device g a h → Gathers failed contents device h b i
      → Gathers failed contents device g (a ++ b) i
  gathers_both {g = g} {h = h} {i = i} {a = a} {b = b} p q = record {
    pushed = p.pushed ++ q.pushed;
    whole = sym (append_assoc (held g) a b) ∙ ap (λ t. t ++ b) p.whole ∙ append_assoc p.pushed (held h) b ∙ ap (λ t. p.pushed ++ t) q.whole
        ∙ sym (append_assoc p.pushed q.pushed (held i));
    taken = Appends-trans _ (contents (sink_of h)) _ _ _ p.taken q.taken;
    kept = q.kept ∙ p.kept;
    same = q.same ∙ p.same;
    same_sink = q.same_sink ∙ p.same_sink;
  }

  pub loses_behind : {g h i : Gathered S} {a b : List ℕ} → Gathers failed contents device g a h → Loses contents device h b i
      → Loses contents device g (a ++ b) i
  loses_behind {g = g} {h = h} {i = i} {a = a} {b = b} p q = record {
    pushed = p.pushed ++ q.pushed;
    rest = q.rest;
    whole = sym (append_assoc (held g) a b) ∙ ap (λ t. t ++ b) p.whole ∙ append_assoc p.pushed (held h) b ∙ ap (λ t. p.pushed ++ t) q.whole
        ∙ sym (append_assoc p.pushed q.pushed q.rest);
    taken = Appends-trans _ (contents (sink_of h)) _ _ _ p.taken q.taken;
    same = q.same ∙ p.same;
    same_sink = q.same_sink ∙ p.same_sink;
  }

pub loses_longer : {S : Type 0} {contents : S → Option (List ℕ)} {device : S → Option GName} {g i : Gathered S} {a : List ℕ} (b : List ℕ)
    → Loses contents device g a i → Loses contents device g (a ++ b) i
loses_longer {g = g} {a = a} b p = record {
  pushed = p.pushed;
  rest = p.rest ++ b;
  whole = sym (append_assoc (held g) a b) ∙ ap (λ t. t ++ b) p.whole ∙ append_assoc p.pushed p.rest b;
  taken = p.taken;
  same = p.same;
  same_sink = p.same_sink;
}

-- what was passed on before, and then a piece
pub passed_on : {S : Type 0} {failed : S → Bool} {contents : S → Option (List ℕ)} {device : S → Option GName} (g h i : Gathered S) (a : List ℕ)
    (Refused : Error → Type 0) (r : Result (Unit {0}) Error) → Gathers failed contents device g [] h
    → MatchResult r (λ _. Gathers failed contents device h a i) (λ e. Loses contents device h a i × Refused e)
    → MatchResult r (λ _. Gathers failed contents device g a i) (λ e. Loses contents device g a i × Refused e)
passed_on g h i a Refused (Ok x) p q = gathers_both p q
passed_on g h i a Refused (Err e) p q = (loses_behind p q.0, q.1)
