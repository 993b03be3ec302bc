-- The blanks at the end of a text: for `trim_blanks`.
use Rattle.std.proofs.Common.{◌≡◌, ℕ, Bool, true, false, ◌&&◌, cond, if◌then◌else◌, [], ◌∷◌, ◌++◌, refl, sym, ap, ◌∙◌, append_assoc, append-nil}
use Rattle.std.proofs.lemmas.List.{append_cancel_right}
use Rattle.ron_spec_words.specs.Characters.{Text, is_blank}
use Rattle.ron_spec_words.specs.Runs.{Every, is_ended}
use Rattle.ron_format_words.specs.Comments.{without_last_blanks}
use Rattle.ron_lex_text.specs.Stretch.{IsSuffix}

-- of blanks alone nothing is left
only_blanks : (m : Text) → Every is_blank m → without_last_blanks m ≡ []
only_blanks [] h = refl
only_blanks (c ∷ m) h = rw (h.0, only_blanks m h.1) refl

not_ended : (m : Text) (c : ℕ) (s : Text) → is_ended (m ++ c ∷ s) ≡ false
not_ended [] c s = refl
not_ended (d ∷ m) c s = refl

-- up to a character that is none all is left
kept : (m : Text) (c : ℕ) (s : Text) → is_blank c ≡ false → without_last_blanks (m ++ c ∷ s) ≡ m ++ c ∷ without_last_blanks s
kept [] c s e = rw e refl
kept (d ∷ m) c s e = rw (kept m c s e, not_ended m c (without_last_blanks s)) (either (is_blank d))
  where
    either : (b : Bool) → (if b && false then [] else d ∷ (m ++ c ∷ without_last_blanks s)) ≡ d ∷ (m ++ c ∷ without_last_blanks s)
    either true = refl
    either false = refl

every_joined : (m : Text) (c : ℕ) → Every is_blank m → is_blank c ≡ true → Every is_blank (m ++ c ∷ [])
every_joined [] c h e = (e, tt)
every_joined (d ∷ m) c h e = (h.0, every_joined m c h.1 e)

-- Behind the last character that is no blank, up to the rest, there are blanks alone.
pub record IsTrimmed (text end rest : Text) : Type 0 where
  pub front : Text
  pub blanks : Text
  pub split : text ≡ front ++ end
  pub behind : end ≡ blanks ++ rest
  pub every : Every is_blank blanks
  pub left : without_last_blanks text ≡ front ++ without_last_blanks end

pub trimmed_start : (text : Text) → IsTrimmed text text text
trimmed_start text = record { front = []; blanks = []; split = refl; behind = refl; every = tt; left = refl }

pub trimmed_on : (text end rest after next : Text) (c : ℕ) → rest ≡ c ∷ after → next ≡ (if is_blank c then end else after) → IsTrimmed text end rest
    → IsTrimmed text next after
trimmed_on text end rest after next c e n h = go (is_blank c) refl n
  where
    behind : end ≡ (h.blanks ++ c ∷ []) ++ after
    behind = h.behind ∙ ap (λ x. h.blanks ++ x) e ∙ sym (append_assoc h.blanks (c ∷ []) after)

    go : (b : Bool) → is_blank c ≡ b → next ≡ cond b end after → IsTrimmed text next after
    go true k m = rw m (record {
      front = h.front;
      blanks = h.blanks ++ c ∷ [];
      split = h.split;
      behind = behind;
      every = every_joined h.blanks c h.every k;
      left = h.left;
    })
    go false k m = rw m (record {
      front = h.front ++ (h.blanks ++ c ∷ []);
      blanks = [];
      split = h.split ∙ ap (λ x. h.front ++ x) behind ∙ sym (append_assoc h.front (h.blanks ++ c ∷ []) after);
      behind = refl;
      every = tt;
      left = h.left ∙ ap (λ x. h.front ++ without_last_blanks x) (h.behind ∙ ap (λ x. h.blanks ++ x) e)
          ∙ ap (λ x. h.front ++ x) (kept h.blanks c after k ∙ sym (append_assoc h.blanks (c ∷ []) (without_last_blanks after)))
          ∙ sym (append_assoc h.front (h.blanks ++ c ∷ []) (without_last_blanks after));
    })

pub trimmed_end : (text end rest : Text) → IsTrimmed text end rest → IsSuffix end text
trimmed_end text end rest h = record { front = h.front; is = h.split }

pub trimmed_all : (text end rest result : Text) → rest ≡ [] → text ≡ result ++ end → IsTrimmed text end rest → result ≡ without_last_blanks text
trimmed_all text end rest result e split h =
    let all : end ≡ h.blanks = h.behind ∙ ap (λ x. h.blanks ++ x) e ∙ append-nil h.blanks in
    append_cancel_right result h.front end (sym split ∙ h.split)
    ∙ sym (h.left ∙ ap (λ x. h.front ++ x) (ap without_last_blanks all ∙ only_blanks h.blanks h.every) ∙ append-nil h.front)
