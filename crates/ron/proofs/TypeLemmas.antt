-- What a text is read as makes the value that was written: for types.
use Rattle.std.proofs.Common.{◌≡◌, ℕ, Option, Result, Ok, Err, inl, inr, sym, ap, subst, ◌∙◌}
use Rattle.ron_spec_words.specs.Characters.{Text}
use Rattle.ron_spec_grammar.specs.Data as plain
use Rattle.ron_spec_grammar.specs.Rule.{Extensions}
use Rattle.ron_base.specs.declared.error.Error.{Error}
use Rattle.ron_base.specs.declared.error.Error.TheVariants.{OutOfMemory}
use Rattle.ron_base.specs.declared.error.SpannedError.{SpannedError}
use Rattle.ron_data.specs.declared.data.Data.{Data}
use Rattle.ron_data_schema.specs.Table.{Table}
use Rattle.ron.specs.Bytes.{ReadsText}
use Rattle.ron.specs.Types.{MakesOf, ReadsTypeBack, code_of}

-- what is promised of an answer by a schema that is the type's, once the answer is known
pub by_type : (P : Table → Result Data SpannedError → Type 0) (given is : Table) (answer known : Result Data SpannedError) → given ≡ is → answer ≡ known
    → P given answer → P is known
by_type P given is answer known e k h = subst (P is) k (subst (λ t. P t answer) e h)

-- the type's refusal of data, as the code of what is answered
pub refused_by : (refuses : Data → Error → Type 0) (accepts : Data → Type 0) (d : Data) (code known : Error) → code ≡ known → refuses d known
    → (accepts d → known ≡ OutOfMemory) → refuses d code × (accepts d → code ≡ OutOfMemory)
refused_by refuses accepts d code known e h memory = (subst (refuses d) (sym e) h, λ a. e ∙ memory a)

module _ {T : Type 0} (means : T → plain.Data) (normal : plain.Data → plain.Data) (accepts : Data → Type 0) (refuses : Data → Error → Type 0) (x : Extensions)
    (limit : Option ℕ) (table : Table) (text : Text) where
  pub type_back : (r : Result T SpannedError) → MakesOf means normal accepts refuses code_of (ReadsText x limit table text) r
      → ReadsTypeBack means normal accepts x limit table text r
  type_back (Ok w) h c v blanks docs is_of encodable names same within rawless norm kept accepted =
      let back = (h.1.reads_back c (means v) blanks docs is_of encodable names same within).equal rawless ∙ norm in
      h.2.value ∙ ap normal back ∙ kept
  type_back (Err e) (inl h) c v blanks docs is_of encodable names same within rawless norm kept accepted =
      h.reads_back c (means v) blanks docs is_of encodable names same within
  type_back (Err e) (inr (inl h)) c v blanks docs is_of encodable names same within rawless norm kept accepted = h.3 (accepted h.0 h.1)
  type_back (Err e) (inr (inr h)) c v blanks docs is_of encodable names same within rawless norm kept accepted = h
