-- Reading and writing types, as the data that they stand for.
use Rattle.std.specs.Prelude.{◌≡◌, ◌⊎◌, ℕ, true, false, Option, Some, Result, Ok, Err, MatchResult, IfOk, IfErr, OnOk, OnErr, List, chars, string_bytes, String}
use Rattle.std.specs.declared.alloc.Global.{Global}
use Rattle.std.specs.Fmt.{WritesInCalls}
use Rattle.std.specs.Io.KnownBytes.{Appends}
use Rattle.ron_spec_words.specs.Characters.{Text}
use Rattle.ron_spec_grammar.specs.Rule.{Extensions}
use Rattle.ron_spec_grammar.specs.Data as plain
use Rattle.ron_spec_layout.specs.Bytes.{full_layout_bytes}
use Rattle.ron_spec_layout.specs.Config.{Config, blank, no_config}
use Rattle.ron_spec_grammar.specs.Raw.{raw_valid}
use Rattle.ron_base.specs.Extensions.{no_extensions}
use Rattle.ron_spec_layout.specs.Name.{names_ok, first_refused}
use Rattle.ron_spec_layout.specs.Encodable.{is_encodable}
use Rattle.ron_spec_layout.specs.Depth.{writer_depth}
use Rattle.ron_spec_layout.specs.Layout.{extensions_under, full_layout}
use Rattle.ron_base.specs.declared.error.Error.{Error}
use Rattle.ron_base.specs.declared.error.Error.TheVariants.{OutOfMemory, ExpectedRawValue}
use Rattle.ron_base.specs.declared.error.SpannedError.{SpannedError}
use Rattle.ron_base.specs.Limit.{IsWithin}
use Rattle.ron_data.specs.declared.data.Data.{Data}
use Rattle.ron_data.specs.Datum.{data_view}
use Rattle.ron_base_device.specs.Device.{TakesFront}
use Rattle.ron_base_device.specs.Output.{StopsText}
use Rattle.ron_base_device.specs.Utf8.{SpansValidFront}
use Rattle.ron_ser.specs.Refusals.{RefusesText, RefusesBlank, RefusesData, RefusesSink, HoldsName}
use Rattle.ron_spec_grammar.specs.Document.{document_depth}
use Rattle.ron_spec_layout.specs.Normal.{norm_with}
use Rattle.ron_spec_layout.specs.Same.{is_rawless}
use Rattle.ron_data_schema.specs.Table.{Table}
use Rattle.ron_types.specs.OfTables.{IsOf}
use Rattle.ron.specs.Bytes.{ReadsText, RefusesAnswer}
use Rattle.ron.specs.Whole.{EndsDocs, SpellsNormalForm}

-- ---- making values

-- A value is made of this data, which the type accepts.
pub record IsMadeOf {T : Type 0} (means : T → plain.Data) (normal : plain.Data → plain.Data) (accepts : Data → Type 0) (d : Data) (v : T) : Type 0 where
  pub accepted : accepts d
  pub value : means v ≡ normal (data_view d)

-- Data that is answered so makes the value; or the error is that of such an answer, or one by which the type refuses such data, or there is no memory.
abbrev pub MakesOf : {T E : Type 0} → (T → plain.Data) → (plain.Data → plain.Data) → (Data → Type 0) → (Data → Error → Type 0) → (E → Error)
    → (Result Data E → Type 0) → Result T E → Type 0
MakesOf means normal accepts refuses code Answers result = MatchResult result
    (λ v. (d : Data) × Answers (Ok d) × IsMadeOf means normal accepts d v)
    (λ e. Answers (Err e) ⊎ (((d : Data) × Answers (Ok d) × refuses d (code e) × (accepts d → code e ≡ OutOfMemory)) ⊎ (code e ≡ OutOfMemory)))

-- The layout of a value's data by any configuration whose texts are blank, that code can hold, whose Somes the text tells, whose names can be written, that is
-- its own normal form and holds no raw text, is read back as a value that stands for the same data, where doc comments end, the limit covers the text's depth,
-- the type accepts what the text is read as, and memory is found.
abbrev pub ReadsTypeBack : {T : Type 0} → (T → plain.Data) → (plain.Data → plain.Data) → (Data → Type 0) → Extensions → Option ℕ → Table → Text
    → Result T SpannedError → Type 0
ReadsTypeBack {T} means normal accepts x limit table text result =
    (c : Config) (v : T) → blank c ≡ true → EndsDocs c (means v) → IsOf table (means v) → is_encodable (extensions_under x c).implicit_some (means v) ≡ true
    → names_ok (means v) ≡ true → text ≡ full_layout x c (means v)
    → IsWithin limit (document_depth x table.shapes table.root text) → is_rawless (means v) ≡ true → norm_with c.number_suffixes (means v) ≡ means v
    → normal (means v) ≡ means v → ((d : Data) → ReadsText x limit table text (Ok d) → accepts d)
    → MatchResult result (λ w. means w ≡ means v) (λ refused. refused.code ≡ OutOfMemory)

-- the error of a refusal with its place
abbrev pub code_of : SpannedError → Error
code_of refused = refused.code

-- The refusal is that of what was read; or the type's of that, and its span goes from 1:1 to the end of the longest front that is UTF-8, so over a whole text.
abbrev pub RefusesAsType : (Data → Type 0) → (Data → Error → Type 0) → (Result Data SpannedError → Type 0) → List ℕ → SpannedError → Type 0
RefusesAsType accepts refuses Answers bytes refused = Answers (Err refused)
    ⊎ (RefusesAnswer accepts refuses Answers refused.code × SpansValidFront bytes refused.span)

-- ---- writing

-- The text is no raw text by itself; or it isn't written.
abbrev pub RefusesRawOf : plain.Data → Error → Type 0
RefusesRawOf d ExpectedRawValue = raw_valid (full_layout no_extensions no_config d) ≡ false
RefusesRawOf d e = RefusesText no_config (Some 128) d e × HoldsName (first_refused d) e

-- what `to_string_data` promises of its answer for data
pub record WritesText (x : Extensions) (limit : Option ℕ) (c : Config) (d : plain.Data) (result : Result (String Global) Error) : Type 0 where
  pub text : IfOk result (λ s. chars (string_bytes s) ≡ full_layout x c d)
  pub reads_back : IfOk result
      (λ s. is_encodable (extensions_under x c).implicit_some d ≡ true → EndsDocs c d → SpellsNormalForm x c d (chars (string_bytes s)))
  pub blank : OnOk result (blank c ≡ true)
  pub names : OnOk result (names_ok d ≡ true)
  pub encodable : OnOk result (is_encodable false d ≡ true)
  pub within : OnOk result (IsWithin limit (writer_depth c d))
  pub refused : IfErr result (RefusesText c limit d)
  pub refused_name : IfErr result (HoldsName (first_refused d))

-- Nothing was written, since a text of the configuration is not blank or no memory was found; or writing was stopped.
abbrev pub StopsWriting : {W : Type 0} → (W → List ℕ → W → Type 0) → (W → List ℕ → W → Type 0) → (W → Error → Type 0) → Config → Option ℕ → plain.Data → W
    → List ℕ → W → Error → Type 0
StopsWriting took left refuses c limit d w bytes v e = ((v ≡ w) × (RefusesBlank c e ⊎ (e ≡ OutOfMemory)))
    ⊎ StopsText took left refuses (RefusesData c limit d) w bytes v e

-- From w to v the layout of data was written, behind announcements; or that was stopped.
pub record WritesTo {W : Type 0} (took left : W → List ℕ → W → Type 0) (refuses : W → Error → Type 0) (x : Extensions) (limit : Option ℕ) (c : Config)
    (d : plain.Data) (w v : W) (result : Result (Unit {0}) Error) : Type 0 where
  pub text : OnOk result (WritesInCalls took w (full_layout_bytes x c d) v)
  pub untouched : blank c ≡ false → v ≡ w
  pub blank : OnOk result (blank c ≡ true)
  pub names : OnOk result (names_ok d ≡ true)
  pub encodable : OnOk result (is_encodable false d ≡ true)
  pub within : OnOk result (IsWithin limit (writer_depth c d))
  pub stopped : IfErr result (StopsWriting took left refuses c limit d w (full_layout_bytes x c d) v)

-- From w to v a device took the bytes of the layout behind those that it held, where they are known; or a front of them.
pub record WritesToDevice {W : Type 0} (contents : W → Option (List ℕ)) (x : Extensions) (limit : Option ℕ) (c : Config) (d : plain.Data) (w v : W)
    (result : Result (Unit {0}) Error) : Type 0 where
  pub taken : OnOk result (Appends (contents w) (contents v) (full_layout_bytes x c d))
  pub beginning : OnErr result (TakesFront (contents w) (contents v) (full_layout_bytes x c d))
  pub untouched : blank c ≡ false → v ≡ w
  pub blank : OnOk result (blank c ≡ true)
  pub names : OnOk result (names_ok d ≡ true)
  pub encodable : OnOk result (is_encodable false d ≡ true)
  pub within : OnOk result (IsWithin limit (writer_depth c d))
  pub refused : IfErr result (RefusesSink true c limit d)
  pub refused_name : IfErr result (HoldsName (first_refused d))
