-- What files hold after one that is laid out, and after several.
use Rattle.std.proofs.Common.{◌≡◌, ◌∙◌, ◌⊎◌, inl, inr, ◌∷◌, ℕ, Bool, true, false, List, Option, Some, None, chars, refl, ap, sym, Decides, bytes_eq}
use Rattle.std.proofs.lemmas.Slice.Eq.{bytes_eq-Decides}
use Rattle.rontool_files.specs.Thing.{Thing, Paths, bytes_of, mode_of}
use Rattle.rontool_files.specs.Thing.Thing.{file, folder, link, other}
use Rattle.rontool_files.specs.Replace.{new_path, Holds, Leaves, IsKept}
use Rattle.ron_spec_words.specs.Characters.{Text}
use Rattle.ron_spec_words.specs.Runs.{is_at}
use Rattle.ron_format_words.specs.Written.{Kept}
use Rattle.rontool_command.specs.Kept.{Relaid, Keeps, KeepsAll, KeepsText, HasPut, IsBehindMark, MarksAs, utf8_mark}
use Rattle.rontool_command.specs.Kept.Relaid.{once, behind, again}
use Rattle.rontool_command.specs.Kept.Keeps.{same, changed, begun}
use Rattle.rontool_command.specs.Kept.KeepsText.{relaid, put}

-- Where nothing changes, all is kept.
pub kept_same : {R : Text → Text → Type 0} (before after : Paths) → after ≡ before → KeepsAll R before after
kept_same before after e at = same (ap (λ p. p at) e)

held_mode : (m n : ℕ) (bs cs : List ℕ) → Some (file m bs) ≡ Some (file n cs) → m ≡ n
held_mode m n bs cs e = cc

held_bytes : (m n : ℕ) (bs cs : List ℕ) → Some (file m bs) ≡ Some (file n cs) → bs ≡ cs
held_bytes m n bs cs e = cc

-- a file, known by its bytes and its permissions
file_by : (thing : Option Thing) (mode : ℕ) (bytes : List ℕ) → mode_of thing ≡ Some mode → bytes_of thing ≡ Some bytes → thing ≡ Some (file mode bytes)
file_by (Some (file m bs)) mode bytes e f = cc
file_by (Some folder) mode bytes e f = absurd (cc)
file_by (Some (link to)) mode bytes e f = absurd (cc)
file_by (Some other) mode bytes e f = absurd (cc)
file_by None mode bytes e f = absurd (cc)

two_texts : (m n : ℕ) (old mid mid2 new : List ℕ) → Some (file m mid) ≡ Some (file n mid2) → Relaid (chars old) (chars mid) → Relaid (chars mid2) (chars new)
    → Relaid (chars old) (chars new)
two_texts m n old mid mid2 new e r s = again (chars old) (chars mid) (chars new) r (rw (held_bytes m n mid mid2 e) s)

kept_behind : (one two three : Paths) (at : List ℕ) (mode : ℕ) (old new : List ℕ) → one at ≡ Some (file mode old) → two at ≡ Some (file mode new)
    → Relaid (chars old) (chars new) → Keeps Relaid two three at → Keeps Relaid one three at
kept_behind one two three at mode old new p q r (same e) = changed mode old new p (e ∙ q) r
kept_behind one two three at mode old new p q r (changed m mid last f g s) =
    changed mode old last p (g ∙ ap (λ n. Some (file n last)) (held_mode m mode mid new (sym f ∙ q))) (two_texts mode m old new mid last (sym q ∙ f) r s)
kept_behind one two three at mode old new p q r (begun path is none) = absurd (cc)

kept_then : (one two three : Paths) (at : List ℕ) → Keeps Relaid one two at → Keeps Relaid two three at → Keeps Relaid one three at
kept_then one two three at (changed mode old new p q r) second = kept_behind one two three at mode old new p q r second
kept_then one two three at (begun path is none) second = begun path is none
kept_then one two three at (same e) (same f) = same (f ∙ e)
kept_then one two three at (same e) (changed mode old new p q r) = changed mode old new (sym e ∙ p) q r
kept_then one two three at (same e) (begun path is none) = begun path is (sym e ∙ none)

-- What is kept twice is kept.
pub kept_again : (one two three : Paths) → KeepsAll Relaid one two → KeepsAll Relaid two three → KeepsAll Relaid one three
kept_again one two three first second at = kept_then one two three at (first at) (second at)

-- What is kept from here on is kept from before, where nothing changed.
pub kept_from : {R : Text → Text → Type 0} (one two three : Paths) → two ≡ one → KeepsAll R two three → KeepsAll R one three
kept_from one two three e kept = rw (← e) kept

kept_file : {R : Text → Text → Type 0} (path given old : List ℕ) (mode : ℕ) (before after : Paths) → before path ≡ Some (file mode old)
    → (after path ≡ before path) ⊎ Holds path given before after → R (chars old) (chars given) → Keeps R before after path
kept_file path given old mode before after held (inl e) r = same e
kept_file path given old mode before after held (inr h) r = changed mode old given held (file_by (after path) mode given (h.mode ∙ ap mode_of held) h.bytes) r

kept_new : {R : Text → Text → Type 0} (path : List ℕ) (before after : Paths) → IsKept (new_path path) before after → Keeps R before after (new_path path)
kept_new path before after (inl e) = same e
kept_new path before after (inr none) = begun path refl none

-- a file is known by its bytes
some_file : (thing : Option Thing) (bytes : List ℕ) → bytes_of thing ≡ Some bytes → (mode : ℕ) × (thing ≡ Some (file mode bytes))
some_file (Some (file m bs)) bytes e = (m, cc)
some_file (Some folder) bytes e = absurd (cc)
some_file (Some (link to)) bytes e = absurd (cc)
some_file (Some other) bytes e = absurd (cc)
some_file None bytes e = absurd (cc)

-- A test that decides tells which of both holds.
by_test : (b : Bool) (P : Type 0) → Decides b P → P ⊎ (P → ⊥)
by_test true P d = inl (d.0 refl)
by_test false P d = inr (λ p. let wrong : false ≡ true = d.1 p in absurd (cc))

kept_elsewhere : {R : Text → Text → Type 0} (path given at : List ℕ) (before after : Paths) → Leaves path (new_path path) given before after
    → IsKept (new_path path) before after → (at ≡ path → ⊥) → (at ≡ new_path path) ⊎ (at ≡ new_path path → ⊥) → Keeps R before after at
kept_elsewhere path given at before after leaves new apart (inl e) = rw e (kept_new path before after new)
kept_elsewhere path given at before after leaves new apart (inr e) = same (leaves.others at apart e)

kept_at : {R : Text → Text → Type 0} (path given old at : List ℕ) (mode : ℕ) (before after : Paths) → before path ≡ Some (file mode old)
    → Leaves path (new_path path) given before after → IsKept (new_path path) before after → R (chars old) (chars given) → (at ≡ path) ⊎ (at ≡ path → ⊥)
    → Keeps R before after at
kept_at path given old at mode before after held leaves new r (inl e) = rw e (kept_file path given old mode before after held leaves.whole r)
kept_at path given old at mode before after held leaves new r (inr e) =
    kept_elsewhere path given at before after leaves new e (by_test (bytes_eq at (new_path path)) (at ≡ new_path path) (bytes_eq-Decides at (new_path path)))

-- What replacing a file by its text changed so leaves.
pub kept_replaced : {R : Text → Text → Type 0} (path given old : List ℕ) (before after : Paths) → bytes_of (before path) ≡ Some old
    → Leaves path (new_path path) given before after → IsKept (new_path path) before after → R (chars old) (chars given) → KeepsAll R before after
kept_replaced path given old before after bytes leaves new r at =
    let held = some_file (before path) old bytes in
    kept_at path given old at held.0 before after held.1 leaves new r (by_test (bytes_eq at path) (at ≡ path) (bytes_eq-Decides at path))

-- ---- what a run keeps

pub text_relaid : (before after : Paths) → KeepsAll Relaid before after → KeepsText before after
text_relaid before after kept = relaid kept

pub text_put : (value : Text) (before after : Paths) → KeepsAll (HasPut value) before after → KeepsText before after
text_put value before after kept = put value kept

pub text_same : (before after : Paths) → after ≡ before → KeepsText before after
text_same before after e = relaid (kept_same before after e)

-- ---- a text and the mark before it

no_mark : (rest : Text) → is_at utf8_mark (utf8_mark ∷ rest) ≡ false → ⊥
no_mark rest e = let wrong : true ≡ false = e in absurd (cc)

-- A text is laid out where what stands behind its mark is, and the mark is put before that again.
pub relaid_behind : (s rest u marked : Text) → IsBehindMark s rest → MarksAs s u marked → Kept rest u → Relaid s marked
relaid_behind s rest u marked (inl e) (inl (more, f, m)) kept = rw (e, m) (behind rest u kept)
relaid_behind s rest u marked (inl e) (inr (f, m)) kept = absurd (no_mark rest (ap (is_at utf8_mark) (sym e) ∙ f))
relaid_behind s rest u marked (inr (f, e)) (inl (more, g, m)) kept = absurd (no_mark more (ap (is_at utf8_mark) (sym g) ∙ f))
relaid_behind s rest u marked (inr (f, e)) (inr (g, m)) kept = rw (← e, m) (once rest u kept)
