-- A text that was put into a sink whose pieces are gathered.
use Rattle.std.proofs.Common.{◌≡◌, ℕ, Bool, Option, List, [], ◌∷◌, ◌++◌, sym, ap, subst, ◌∙◌, append_assoc, append-nil}
use Rattle.std.specs.Fmt.{WritesInCalls}
use Rattle.std.specs.List.{concat, FoldsTo}
use Rattle.std.specs.Borrow.{GName}
use Rattle.std.specs.Io.KnownBytes.{Appends}
use Rattle.ron_base_device.specs.declared.gathered.Gathered.{Gathered}
use Rattle.ron_base_device.specs.Gathered.{Gathers, Loses, held, sink_of}
use Rattle.ron_base_device.specs.Device.{TakesFront}
use Rattle.ron_base_device.specs.Begun.{HasBegun, HasBroken}
use Rattle.ron_base_device.proofs.GatherLemmas.{gathers_nothing, gathers_both, loses_behind, loses_longer}

module _ {S : Type 0} (failed : S → Bool) (contents : S → Option (List ℕ)) (device : S → Option GName) where
  folded : (g : Gathered S) (pieces : List (List ℕ)) (h : Gathered S) → FoldsTo (Gathers failed contents device) g pieces h
      → Gathers failed contents device g (concat pieces) h
  folded g [] h is = subst (λ i. Gathers failed contents device g [] i) is (gathers_nothing g)
  folded g (x ∷ xs) h is = gathers_both is.1 (folded is.0 xs h is.2)

  pub gathered : {g h : Gathered S} {text : List ℕ} → WritesInCalls (Gathers failed contents device) g text h → Gathers failed contents device g text h
  gathered {g = g} {h = h} w = subst (λ t. Gathers failed contents device g t h) w.whole (folded g w.parts h w.calls)

  -- a front that was put, and what is held of it
  pub gathered_front : {g h : Gathered S} {text : List ℕ} → HasBegun (Gathers failed contents device) g text h → Loses contents device g text h
  gathered_front {g = g} {h = h} b =
      let p : Gathers failed contents device g b.front h = gathered b.written in
      record {
        pushed = p.pushed;
        rest = held h ++ b.rest;
        whole =
            ap (λ t. held g ++ t) b.whole ∙ sym (append_assoc (held g) b.front b.rest) ∙ ap (λ t. t ++ b.rest) p.whole ∙ append_assoc p.pushed (held h) b.rest;
        taken = p.taken;
        same = p.same;
        same_sink = p.same_sink;
      }

  -- a put that broke off
  pub gathered_broken : {g h : Gathered S} {text : List ℕ} → HasBroken (Gathers failed contents device) (Loses contents device) g text h
      → Loses contents device g text h
  gathered_broken {g = g} {h = h} {text = text} b =
      let p : Gathers failed contents device g b.front b.mid = gathered b.written in
      let lost : Loses contents device b.mid (b.broke.piece ++ b.broke.rest) h = loses_longer b.broke.rest b.broke.part in
      subst (λ t. Loses contents device g t h) (sym (b.whole ∙ ap (λ t. b.front ++ t) b.broke.whole)) (loses_behind p lost)

-- ---- what the sink took

module _ {S : Type 0} {failed : S → Bool} {contents : S → Option (List ℕ)} {device : S → Option GName} {g h : Gathered S} {text : List ℕ}
    (none_held : held g ≡ []) where
  pub all_taken : Gathers failed contents device g text h → held h ≡ [] → Appends (contents (sink_of g)) (contents (sink_of h)) text
  all_taken p left =
      let whole : text ≡ p.pushed = ap (λ t. t ++ text) (sym none_held) ∙ p.whole ∙ ap (λ t. p.pushed ++ t) left ∙ append-nil p.pushed in
      subst (λ t. Appends (contents (sink_of g)) (contents (sink_of h)) t) (sym whole) p.taken

pub front_taken : {S : Type 0} {contents : S → Option (List ℕ)} {device : S → Option GName} {g h : Gathered S} {text : List ℕ} → held g ≡ []
    → Loses contents device g text h → TakesFront (contents (sink_of g)) (contents (sink_of h)) text
front_taken {text = text} none_held p = record { front = p.pushed; rest = p.rest; whole = ap (λ t. t ++ text) (sym none_held) ∙ p.whole; taken = p.taken }
