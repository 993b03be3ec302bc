-- What puts did together, and what is left where one of them failed.
use Rattle.std.proofs.Common.{◌≡◌, ℕ, Option, None, Some, List, [], ◌∷◌, ◌++◌, refl, sym, ap, subst, ◌∙◌, append_assoc}
use Rattle.std.specs.Fmt.{WritesInCalls}
use Rattle.std.specs.List.{concat, FoldsTo}
use Rattle.ron_base.specs.declared.error.Error.{Error}
use Rattle.ron_base_device.specs.declared.output.TextOutput.{TextOutput}
use Rattle.ron_base_device.specs.Begun.{HasBegun, HasBroken}
use Rattle.ron_base_device.specs.Output.{Put, PutsText, writer_of, fault_of, name_of_writer, name_of_fault}

-- ---- what many puts did

-- Without a fault the whole text was put; with one a front of it, and then a put failed, which the fault is of.
abbrev pub HasPut : {W : Type 0} → (W → List ℕ → W → Type 0) → (W → List ℕ → W → Type 0) → (W → Error → Type 0) → W → List ℕ → W → Option Error → Type 0
HasPut took left refuses w text v None = WritesInCalls took w text v
HasPut took left refuses w text v (Some fault) = HasBroken took left w text v × refuses v fault

-- Without a fault a front of the text was put; with one likewise, and then a put failed.
abbrev pub HasPutFront : {W : Type 0} → (W → List ℕ → W → Type 0) → (W → List ℕ → W → Type 0) → (W → Error → Type 0) → W → List ℕ → W → Option Error → Type 0
HasPutFront took left refuses w text v None = HasBegun took w text v
HasPutFront took left refuses w text v (Some fault) = HasBroken took left w text v × refuses v fault

-- ---- a put, by the faults before and after it

same_of : (Taken Same : Type 0) (Failed : Error → Type 0) (before after : Option Error) (e : Error) → before ≡ Some e → Put before after Taken Failed Same
    → Same
same_of Taken Same Failed None after e is h = absurd (cc is)
same_of Taken Same Failed (Some fault) after e is h = h

taken_of : (Taken Same : Type 0) (Failed : Error → Type 0) (before after : Option Error) → before ≡ None → after ≡ None → Put before after Taken Failed Same
    → Taken
taken_of Taken Same Failed None None is was h = h
taken_of Taken Same Failed None (Some e) is was h = absurd (cc was)
taken_of Taken Same Failed (Some e) after is was h = absurd (cc is)

failed_of : (Taken Same : Type 0) (Failed : Error → Type 0) (before after : Option Error) (e : Error) → before ≡ None → after ≡ Some e
    → Put before after Taken Failed Same → Failed e
failed_of Taken Same Failed None None e is was h = absurd (cc was)
failed_of Taken Same Failed None (Some fault) e is was h = subst Failed (cc was) h
failed_of Taken Same Failed (Some fault) after e is was h = absurd (cc is)

-- ---- where a put breaks off

broken_now : {W : Type 0} {took left : W → List ℕ → W → Type 0} (w v : W) (x : List ℕ) (xs : List (List ℕ)) → left w x v
    → HasBroken took left w (concat (x ∷ xs)) v
broken_now w v x xs h = record {
  front = [];
  rest = x ++ concat xs;
  mid = w;
  written = record { parts = []; calls = refl; whole = refl };
  whole = refl;
  broke = record { piece = x; rest = concat xs; whole = refl; part = h };
}

broken_later : {W : Type 0} {took left : W → List ℕ → W → Type 0} (w m v : W) (x : List ℕ) (xs : List (List ℕ)) → took w x m
    → HasBroken took left m (concat xs) v → HasBroken took left w (concat (x ∷ xs)) v
broken_later w m v x xs t h = record {
  front = x ++ h.front;
  rest = h.rest;
  mid = h.mid;
  written = record { parts = x ∷ h.written.parts; calls = (m, t, h.written.calls); whole = ap (λ t. x ++ t) h.written.whole };
  whole = ap (λ t. x ++ t) h.whole ∙ sym (append_assoc x h.front h.rest);
  broke = h.broke;
}

broken_longer : {W : Type 0} {took left : W → List ℕ → W → Type 0} (w v : W) (a b : List ℕ) → HasBroken took left w a v → HasBroken took left w (a ++ b) v
broken_longer w v a b h = record {
  front = h.front;
  rest = h.rest ++ b;
  mid = h.mid;
  written = h.written;
  whole = ap (λ t. t ++ b) h.whole ∙ append_assoc h.front h.rest b;
  broke = record {
    piece = h.broke.piece;
    rest = h.broke.rest ++ b;
    whole = ap (λ t. t ++ b) h.broke.whole ∙ append_assoc h.broke.piece h.broke.rest b;
    part = h.broke.part;
  };
}

module _ {W : Type 0} (took left : W → List ℕ → W → Type 0) (refuses : W → Error → Type 0) where
  -- the pieces were taken, or a put broke off
  abbrev Ends : W → List (List ℕ) → W → Option Error → Type 0
  Ends w pieces v None = FoldsTo took w pieces v
  Ends w pieces v (Some fault) = HasBroken took left w (concat pieces) v × refuses v fault

  further : (w m v : W) (x : List ℕ) (xs : List (List ℕ)) (fault : Option Error) → took w x m → Ends m xs v fault → Ends w (x ∷ xs) v fault
  further w m v x xs None t h = (m, t, h)
  further w m v x xs (Some e) t h = (broken_later w m v x xs t h.0, h.1)

  -- ---- a text, and a front of one

  put_of : (w : W) (text : List ℕ) (v : W) (parts : List (List ℕ)) (fault : Option Error) → text ≡ concat parts → Ends w parts v fault
      → HasPut took left refuses w text v fault
  put_of w text v parts None whole h = record { parts = parts; calls = h; whole = sym whole }
  put_of w text v parts (Some e) whole h = (subst (λ t. HasBroken took left w t v) (sym whole) h.0, h.1)

  front_of : (w : W) (a b text : List ℕ) (v : W) (fault : Option Error) → text ≡ a ++ b → HasPut took left refuses w a v fault
      → HasPutFront took left refuses w text v fault
  front_of w a b text v None whole h = record { front = a; rest = b; written = h; whole = whole }
  front_of w a b text v (Some e) whole h = (subst (λ t. HasBroken took left w t v) (sym whole) (broken_longer w v a b h.0), h.1)

  module _ {P : Type 0} where
    abbrev Puts : TextOutput W P → List ℕ → TextOutput W P → Type 0
    Puts = PutsText took left refuses

    -- where there is a fault, nothing is done
    stays : (o : TextOutput W P) (pieces : List (List ℕ)) (p : TextOutput W P) (e : Error) → fault_of o ≡ Some e → FoldsTo Puts o pieces p
        → (writer_of p ≡ writer_of o) × (fault_of p ≡ fault_of o)
    stays o [] p e is h = (ap writer_of (sym h), ap fault_of (sym h))
    stays o (x ∷ xs) p e is h =
        let same : (writer_of h.0 ≡ writer_of o) × (fault_of h.0 ≡ fault_of o) = same_of _ _ _ (fault_of o) (fault_of h.0) e is h.1.put in
        let later = stays h.0 xs p e (same.1 ∙ is) h.2 in (later.0 ∙ same.0, later.1 ∙ same.1)

    -- a piece, and what the others did where it was taken
    ends_by : (o : TextOutput W P) (x : List ℕ) (m : TextOutput W P) (xs : List (List ℕ)) (p : TextOutput W P) → fault_of o ≡ None → Puts o x m
        → FoldsTo Puts m xs p → (fault_of m ≡ None → Ends (writer_of m) xs (writer_of p) (fault_of p)) → (fault : Option Error) → fault_of m ≡ fault
        → Ends (writer_of o) (x ∷ xs) (writer_of p) (fault_of p)
    ends_by o x m xs p opened h rest others None is =
        further (writer_of o) (writer_of m) (writer_of p) x xs (fault_of p) (taken_of _ _ _ (fault_of o) (fault_of m) opened is h.put) (others is)
    ends_by o x m xs p opened h rest others (Some e) is =
        let failed : left (writer_of o) x (writer_of m) × refuses (writer_of m) e = failed_of _ _ _ (fault_of o) (fault_of m) e opened is h.put in
        let now : Ends (writer_of o) (x ∷ xs) (writer_of m) (Some e) = (broken_now (writer_of o) (writer_of m) x xs failed.0, failed.1) in
        let same = stays m xs p e is rest in
        subst (λ v. Ends (writer_of o) (x ∷ xs) v (fault_of p)) (sym same.0) (subst (λ f. Ends (writer_of o) (x ∷ xs) (writer_of m) f) (sym (same.1 ∙ is)) now)

    ends : (o : TextOutput W P) (pieces : List (List ℕ)) (p : TextOutput W P) → fault_of o ≡ None → FoldsTo Puts o pieces p
        → Ends (writer_of o) pieces (writer_of p) (fault_of p)
    ends o [] p opened h =
        subst (λ q. Ends (writer_of o) [] (writer_of q) (fault_of q)) h (subst (λ f. Ends (writer_of o) [] (writer_of o) f) (sym opened) refl)
    ends o (x ∷ xs) p opened h = ends_by o x h.0 xs p opened h.1 h.2 (λ is. ends h.0 xs p is h.2) (fault_of h.0) refl

    pub has_put : (o p : TextOutput W P) (text : List ℕ) → fault_of o ≡ None → WritesInCalls Puts o text p
        → HasPut took left refuses (writer_of o) text (writer_of p) (fault_of p)
    has_put o p text opened h = put_of (writer_of o) text (writer_of p) h.parts (fault_of p) (sym h.whole) (ends o h.parts p opened h.calls)

    pub has_put_front : (o p : TextOutput W P) (text : List ℕ) → fault_of o ≡ None → HasBegun Puts o text p
        → HasPutFront took left refuses (writer_of o) text (writer_of p) (fault_of p)
    has_put_front o p text opened h = front_of (writer_of o) h.front h.rest text (writer_of p) (fault_of p) h.whole (has_put o p h.front opened h.written)

    -- ---- the same writer, and the same place for the fault

    all_named : (o : TextOutput W P) (pieces : List (List ℕ)) (p : TextOutput W P) → FoldsTo Puts o pieces p
        → (name_of_writer p ≡ name_of_writer o) × (name_of_fault p ≡ name_of_fault o)
    all_named o [] p h = (ap name_of_writer (sym h), ap name_of_fault (sym h))
    all_named o (x ∷ xs) p h = let later = all_named h.0 xs p h.2 in (later.0 ∙ h.1.same_writer, later.1 ∙ h.1.same_fault)

    pub named_alike : (o p : TextOutput W P) (text : List ℕ) → WritesInCalls Puts o text p
        → (name_of_writer p ≡ name_of_writer o) × (name_of_fault p ≡ name_of_fault o)
    named_alike o p text h = all_named o h.parts p h.calls
