-- What each form of a value begins with, and where no field begins.
use Rattle.std.proofs.Common.{◌≡◌, Bool, true, false, not, cond, [], ◌∷◌, ◌++◌, codes, inl, inr, refl, ap, ◌∙◌, eqb-true}
use Rattle.std.specs.Char.{is_ascii_digit}
use Rattle.unicode_ident.proofs.Computing.{unicode_ident}
use Rattle.ron_spec_words.specs.Characters.{Text, starts_name, continues_name, in_raw_name}
use Rattle.ron_spec_words.specs.Runs.{begins, is_at, begins_with}
use Rattle.ron_spec_words.specs.Gap.{skip, ends_value, is_delimiter}
use Rattle.ron_spec_words.specs.Lang.{Lang, BeginsAndGoesOn, Then}
use Rattle.ron_spec_words.specs.Reader.{got, failed, bad, fail, run, behind, not_before, unless_before, pick}
use Rattle.ron_spec_words.specs.Exact.{FollowsValue}
use Rattle.ron_spec_words.specs.Directly.{FixedWord, stands}
use Rattle.ron_spec_words.specs.Name.{opens_literal, is_name_mark, name, PlainIdentifier, PlainName, Name, UntypedName}
use Rattle.ron_spec_words.specs.Range.{NumberOrRange}
use Rattle.ron_spec_words.proofs.Ranges.{first_interval, untyped_name_no_interval, name_no_interval}
use Rattle.ron_spec_words.specs.Quoted.{Char, String, ByteString}
use Rattle.ron_spec_words.specs.Scan.{opens_string, opens_byte_string}
use Rattle.ron_spec_words.specs.Lookahead.{leads_to, opens_field, opens_named_group}
use Rattle.ron_spec_words.proofs.Words.{First, word_run, first_means, first_or}
use Rattle.ron_spec_words.proofs.Direct.{stands-append}
use Rattle.ron_spec_words.proofs.Classes.{apart}
use Rattle.ron_spec_words.proofs.Names.{word_name, first_name, word_untyped_name, first_untyped_name, identifier_begins}
use Rattle.ron_spec_words.proofs.Exactly.{is_at_other}
use Rattle.ron_spec_words.proofs.LiteralStarts.{first_char, first_string, first_byte_string}
use Rattle.ron_spec_words.proofs.Tokens.{string_opens, byte_string_opens, raw_name_no_string}
use Rattle.ron_spec_words.proofs.TokenRuns.{identifier_no_string}
use Rattle.ron_spec_words.proofs.UntypedWords.{first_untyped_integer, Unnamed, no_field, unnamed_mark, unnamed_char}
use Rattle.ron_spec_grammar.specs.Values.Grammar.{Form, a_character, a_string, a_byte_string, a_list, a_map, a_group, a_number, a_word, form}
use Rattle.ron_spec_grammar.proofs.Values.Telling.{Starts, starts_first, starts_then, NoColon, gap_no_colon}

abbrev pub Is : Form → Text → Type 0
Is f s = form s ≡ f

-- ---- forms

pub char_form : First (Is a_character) Char
unfolding form
char_form = first_char (Is a_character) (λ s. refl)

pub string_form : First (Is a_string) String
unfolding form
string_form = record {
  holds = λ t next a z. rw ((first_string (λ s. is_at 39 s ≡ false) (λ s. refl) (λ s. refl)).holds t next a z, string_opens.holds t next a z) refl;
}

pub byte_string_form : First (Is a_byte_string) ByteString
unfolding form
byte_string_form = record {
  holds = λ t next a z.
      let k = (first_byte_string (λ s. (is_at 39 s ≡ false) × (opens_string s ≡ false)) (λ s. (refl, refl)) (λ s. (refl, refl))).holds t next a z in
      rw (k.0, k.1, byte_string_opens.holds t next a z) refl;
}

pub marks_form : ((s : Text) → Is a_list (91 ∷ s)) × ((s : Text) → Is a_map (123 ∷ s)) × ((s : Text) → Is a_group (40 ∷ s))
unfolding form
marks_form = (λ s. refl, λ s. refl, λ s. refl)

pub number_form : First (Is a_number) NumberOrRange
unfolding form
number_form = first_interval (Is a_number) (λ s. refl) (first_untyped_integer (Is a_number) (λ s. refl) (λ s. refl) (λ s. refl)
    (λ c s e. rw (
      apart is_ascii_digit 39 c refl e,
      apart is_ascii_digit 34 c refl e,
      apart is_ascii_digit 114 c refl e,
      apart is_ascii_digit 98 c refl e,
      apart is_ascii_digit 91 c refl e,
      apart is_ascii_digit 123 c refl e,
      apart is_ascii_digit 40 c refl e,
      apart is_ascii_digit 46 c refl e,
      e,
    ) refl))

-- the four words of values that are no floats
abbrev pub IsValueWord : Text → Type 0
IsValueWord w = ((s : Text) → Is a_word (w ++ s)) × ((s : Text) → opens_literal (w ++ s) ≡ false) × ((s : Text) → begins_with (codes "r#") (w ++ s) ≡ false)
    × BeginsAndGoesOn starts_name continues_name w

pub value_words : IsValueWord (codes "true") × IsValueWord (codes "false") × IsValueWord (codes "None") × IsValueWord (codes "Some")
unfolding form unicode_ident
value_words = (
  (λ s. refl, λ s. refl, λ s. refl, (refl, (refl, (refl, (refl, tt))))),
  (λ s. refl, λ s. refl, λ s. refl, (refl, (refl, (refl, (refl, (refl, tt)))))),
  (λ s. refl, λ s. refl, λ s. refl, (refl, (refl, (refl, (refl, tt))))),
  (λ s. refl, λ s. refl, λ s. refl, (refl, (refl, (refl, (refl, tt))))),
)

pub fixed_form : {A : Type 0} (w : Text) (a : A) → IsValueWord w → First (Is a_word) (FixedWord w a)
fixed_form w a h = record { holds = λ t next b z. rw z.same (h.0 next) }

-- neither a quote nor a bracket
abbrev NoMark : Text → Type 0
NoMark s = (is_at 39 s ≡ false) × (is_at 91 s ≡ false) × (is_at 123 s ≡ false) × (is_at 40 s ≡ false)

name_no_mark : First NoMark UntypedName
unfolding unicode_ident
name_no_mark = first_untyped_name NoMark (λ s. (refl, refl, refl, refl))
    (λ c s e. (apart starts_name 39 c refl e, apart starts_name 91 c refl e, apart starts_name 123 c refl e, apart starts_name 40 c refl e))

pub name_form : First (Is a_word) UntypedName
unfolding form
name_form = record {
  holds = λ t next n z.
      let k = name_no_mark.holds t next n z in
      let o =
      (first_or {P = λ s. (opens_string s ≡ false) × (opens_byte_string s ≡ false)} raw_name_no_string (first_means identifier_no_string)).holds t next n z in
      rw (k.0, o.0, o.1, k.1, k.2, k.3, untyped_name_no_interval.holds t next n z) refl;
}

-- a name that is required
pub required_name_form : First (Is a_word) Name
unfolding form unicode_ident
required_name_form = record {
  holds = λ t next n z.
      let k = (first_name NoMark (λ s. (refl, refl, refl, refl)) (λ c s e.
      (apart starts_name 39 c refl e, apart starts_name 91 c refl e, apart starts_name 123 c refl e, apart starts_name 40 c refl e))).holds t next n z in
      let o = (first_or {P = λ s. (opens_string s ≡ false) × (opens_byte_string s ≡ false)} {M = PlainName} raw_name_no_string
      (record { holds = λ t next n z. identifier_no_string.holds t next n (z.0, z.1.spelled) })).holds t next n z in
      rw (k.0, o.0, o.1, k.1, k.2, k.3, name_no_interval.holds t next n z) refl;
}

-- ---- where no field begins

pub char_unnamed : {F : Text → Type 0} → Starts opens_field false Char F
char_unnamed {F} = starts_first F (no_field unnamed_char)

no_names : (starts_name 91 ≡ false) × (starts_name 123 ≡ false) × (starts_name 40 ≡ false) × (starts_name 41 ≡ false)
unfolding unicode_ident
no_names = (refl, refl, refl, refl)

pub marks_unnamed : ((s : Text) → Unnamed (91 ∷ s)) × ((s : Text) → Unnamed (123 ∷ s)) × ((s : Text) → Unnamed (40 ∷ s)) × ((s : Text) → Unnamed (41 ∷ s))
marks_unnamed = (
  λ s. unnamed_mark 91 s no_names.0 refl,
  λ s. unnamed_mark 123 s no_names.1 refl,
  λ s. unnamed_mark 40 s no_names.2 refl,
  λ s. unnamed_mark 41 s no_names.3 refl,
)

pub close_unnamed : (s : Text) → is_at 41 s ≡ true → opens_field s ≡ false
unfolding opens_field
close_unnamed [] e = absurd (cc)
close_unnamed (c ∷ s) e = let same : c ≡ 41 = eqb-true c 41 e in rw same (ap (leads_to 58) (marks_unnamed.3 s).no_name)

-- where a plain identifier stands, a name is read if what follows it may follow a name that is required
name_at : (s : Text) → begins_with (codes "r#") s ≡ false → not (opens_literal s) ≡ true
    → name s ≡ unless_before is_name_mark (run starts_name continues_name s)
unfolding name
name_at s e f =
    ap (λ b. cond b (behind 114 (behind 35 (run in_raw_name in_raw_name)) s)
    (pick (λ u. not (opens_literal u)) (not_before is_name_mark (run starts_name continues_name)) (fail bad) s)) e
    ∙ ap (λ b. cond b (not_before is_name_mark (run starts_name continues_name) s) (failed bad)) f

-- so no field begins before what is no colon
identifier_field : (t next n : Text) → PlainIdentifier t next n → begins_with (codes "r#") (t ++ next) ≡ false → NoColon next → opens_field (t ++ next) ≡ false
unfolding opens_field
identifier_field t next n z e f =
    ap (leads_to 58) (name_at (t ++ next) e z.0 ∙ ap (unless_before is_name_mark) ((word_run starts_name continues_name).complete t next n z.1).answer)
    ∙ go (begins is_name_mark next)
  where
    go : (b : Bool) → leads_to 58 (cond b (failed bad) (got n next)) ≡ false
    go true = refl
    go false = f

name_field : (t next n : Text) → UntypedName t next n → NoColon next → opens_field (t ++ next) ≡ false
unfolding opens_field
name_field t next n (inl z) f = ap (leads_to 58) (word_name.complete t next n (inl z)).answer ∙ f
name_field t next n (inr z) f = identifier_field t next z.value z.spelled (identifier_begins.holds t next z.value z.spelled) f

pub name_unnamed : Starts opens_field false UntypedName NoColon
name_unnamed = record { at = λ t next n z f _. name_field t next n z f }

pub fixed_unnamed : {A : Type 0} (w : Text) (a : A) → IsValueWord w → Starts opens_field false (FixedWord w a) NoColon
fixed_unnamed w a h = record {
  at = λ t next b z f _. rw z.same (identifier_field w next w (ap not (h.1 next), record { same = refl; every = h.3; longest = z.ends }) (h.2 next) f);
}

-- nor before `(`
pub bracket_unnamed : {A B : Type 0} {L : Lang A} {M : A → Text → Lang B} {F : Text → Type 0} → Starts opens_field false L NoColon
    → ((a : A) (gap : Text) → First (λ s. is_at 40 s ≡ true) (M a gap)) → Starts opens_field false (Then L M) F
bracket_unnamed h k =
    starts_then h (λ a gap right next x g z _. gap_no_colon gap (right ++ next) g (is_at_other 40 58 (right ++ next) ((k a gap).holds right next x z) refl))

-- ---- words apart

pub fixed_stands : {A : Type 0} (w : Text) (a : A) → First (λ s. stands w s ≡ true) (FixedWord w a)
fixed_stands w a = record { holds = λ t next b z. rw z.same (stands-append w next z.ends) }

-- a name alone stands before no `(`
pub alone_ungrouped : Starts opens_named_group false UntypedName FollowsValue
unfolding opens_named_group
alone_ungrouped = record { at = λ t next n z f _. ap (leads_to 40) (word_untyped_name.complete t next n z).answer ∙ no_bracket (skip next) f }
  where
    no_bracket : (s : Text) → ends_value s ≡ true → is_at 40 s ≡ false
    no_bracket [] e = refl
    no_bracket (c ∷ s) e = apart is_delimiter 40 c refl e
