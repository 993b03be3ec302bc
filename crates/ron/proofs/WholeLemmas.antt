-- What reading a whole text says, by the laws of the grammar, from its answer.
use Rattle.std.proofs.Common.{◌≡◌, ◌⊎◌, ℕ, false, true, length, Result, Ok, Err, Option, Some, None, MatchResult, IfOk, IfErr, OnOk, IsSome, String, Global}
use Rattle.std.proofs.Common.{chars, string_bytes, refl, sym, subst, ◌∙◌, arith, inl, inr, Bool, ap}
use Rattle.ron_spec_words.specs.Characters.{Text}
use Rattle.ron_spec_words.specs.Gap.{skip}
use Rattle.ron_spec_words.specs.Quoted.{String as StringLiteral}
use Rattle.ron_spec_words.specs.Reader.{bad, deep}
use Rattle.ron_lex.specs.Quoted.{HoldsEscape}
use Rattle.ron_spec_grammar.specs.Data as plain
use Rattle.ron_spec_grammar.specs.Schema.{OfShape, is_well_formed, has_no_cycle}
use Rattle.ron_spec_grammar.specs.Room.{enough}
use Rattle.ron_spec_grammar.specs.Document.{Document, ok, err, answer_document, document_depth}
use Rattle.ron_spec_grammar.proofs.Place as place
use Rattle.ron_spec_grammar.proofs.Document as laws
use Rattle.ron_spec_grammar.proofs.Depth.{within_document}
use Rattle.ron_spec_layout.specs.Name.{names_ok}
use Rattle.ron_spec_layout.specs.Encodable.{is_encodable}
use Rattle.ron_spec_layout.specs.Config.{Config, blank}
use Rattle.ron_spec_layout.specs.Docs.{is_documented}
use Rattle.ron_spec_layout.specs.Layout.{extensions_under, full_layout}
use Rattle.ron_spec_layout.specs.Statement.{IsReadable}
use Rattle.ron_spec_grammar.proofs.Attribute.{head_exact}
use Rattle.ron_spec_grammar.proofs.Agreement.Laws.{document_agrees}
use Rattle.ron_base.specs.Extensions.{no_extensions}
use Rattle.ron_spec_words.specs.Reader.{got}
use Rattle.ron_spec_words.specs.Runs.{is_ended}
use lib.Utf8.{scalars}
use Rattle.ron_spec_layout.specs.Same.{IsReadBackWith}
use Rattle.ron_spec_layout.proofs.Readable.{no_doc}
use Rattle.ron_spec_layout.proofs.Whole.{is_read_back}
use Rattle.ron_base.specs.declared.error.Error.TheVariants.{OutOfMemory, ExceededRecursionLimit, TrailingCharacters}
use Rattle.ron_base.specs.declared.error.SpannedError.{SpannedError}
use Rattle.ron_base.specs.Limit.{IsWithin}
use Rattle.ron_base.specs.Class.{ErrorClass, memory, depth, other, class_of}
use Rattle.ron_data.specs.declared.data.Data.{Data}
use Rattle.ron_data.specs.Datum.{data_view}
use Rattle.ron_data_schema.specs.Table.{Table}
use Rattle.ron_spec_grammar.specs.Rule.{Extensions}
use Rattle.ron_spec_grammar.specs.Attribute.{in_force}
use Rattle.ron_de_parts.specs.Room.{IsRoom}
use Rattle.ron.specs.Whole.{EndsDocs, AgreesWithValue, DocumentWithin, IsNoDocument, HasAttribute, RefusesDocument, RefusesDeepDocument, IsOnlyDocument}
use Rattle.ron.specs.Whole.{IsOnlyData, IsFaultOfText, AnswersAsReader, RefusesRest, TrailsAt, SpellsNormalForm, ReadsBack}
use Rattle.ron.specs.Kept.{TellsKept}
use Rattle.ron.specs.Reading.{HasSpanIn, IsLeaf, IsString, IsOfDocument}
use Rattle.ron_de_steps.proofs.ErrorLemmas.{memory_is, depth_is}
use Rattle.ron.proofs.ReadLemmas.{no_cycle_in}

-- In each room that the limit leaves, the reader function refuses the text, and not for its depth.
abbrev pub RefusesWhole : Extensions → Option ℕ → Table → Text → Type 0
RefusesWhole x limit table text =
    (room : ℕ) → IsRoom limit (enough table.shapes false table.root (length text)) room
    → answer_document x table.shapes table.root room text ≡ err bad

module _ (x : Extensions) (table : Table) (ends : has_no_cycle table.shapes ≡ true) (text : Text) where
  -- levels that are enough for the text
  abbrev pub enough_here : ℕ
  enough_here = enough table.shapes false table.root (length text)

  -- what the reader function of whole texts answers
  abbrev pub answer_in : ℕ → plain.Data → Type 0
  answer_in room d = answer_document x table.shapes table.root room text ≡ ok d

  -- a document within the limit is one in a room that the limit leaves
  in_room : (limit : Option ℕ) (d : plain.Data) → DocumentWithin x limit table text d
      → (room : ℕ) × IsRoom limit enough_here room × Document x table.shapes table.root room text d
  in_room (Some room) d z = (room, refl, z)
  in_room None d z =
      (enough_here, omega arith, laws.bounded x table.shapes table.root ends z.0 text d z.1)

  at_some_depth : (limit : Option ℕ) (d : plain.Data) → DocumentWithin x limit table text d → (room : ℕ) × Document x table.shapes table.root room text d
  at_some_depth (Some room) d z = (room, z)
  at_some_depth None d z = z

  pub document_within : (limit : Option ℕ) (d : plain.Data) → ((room : ℕ) → IsRoom limit enough_here room → answer_in room d)
      → DocumentWithin x limit table text d
  document_within (Some room) d a = laws.sound x table.shapes table.root room text d (a room refl)
  document_within None d a = (enough_here, laws.sound x table.shapes table.root enough_here text d (a enough_here (omega arith)))

  module _ (limit : Option ℕ) where
    pub only_data : (d : plain.Data) → DocumentWithin x limit table text d → IsOnlyDocument x table text d
    only_data d z e n y = let r = at_some_depth limit d z in laws.unique x table.shapes table.root n r.0 text e d y r.1

    pub of_schema : (d : plain.Data) → is_well_formed table.shapes table.root ≡ true → DocumentWithin x limit table text d → OfShape table.shapes table.root d
    of_schema d well z = let r = at_some_depth limit d z in
        (let z = r.1 in place.of_schema (is_ended z.head) (in_force x z.announced) table.shapes table.root table.root r.0 z.is_body.before z.is_body.value
        z.is_body.after d well z.is_body.spelled)

    pub no_document : RefusesWhole x limit table text → IsNoDocument x limit table text
    no_document a d z =
        let r = in_room limit d z in
        let h = laws.complete x table.shapes table.root r.0 text d r.2 in
        let g = a r.0 r.1 in cc

    module _ (e : SpannedError)
        (a : (room : ℕ) → IsRoom limit enough_here room → IsFaultOfText (class_of e.code) (answer_document x table.shapes table.root room text)) where
      pub refuses : RefusesDocument x limit table text e
      refuses = by_class (class_of e.code) refl
        where
          none : (k : ErrorClass) → class_of e.code ≡ k → (k ≡ memory → ⊥) → (d : plain.Data) → DocumentWithin x limit table text d → ⊥
          none memory c not d z = not refl
          none depth c not d z =
              let r = in_room limit d z in
              let h = laws.complete x table.shapes table.root r.0 text d r.2 in
              let g : answer_document x table.shapes table.root r.0 text ≡ err deep = rw c at (a r.0 r.1) in cc
          none other c not d z =
              let r = in_room limit d z in
              let h = laws.complete x table.shapes table.root r.0 text d r.2 in
              let g = rw c at (a r.0 r.1) in cc

          by_class : (k : ErrorClass) → class_of e.code ≡ k → RefusesDocument x limit table text e
          by_class memory c = inl (memory_is e.code c)
          by_class depth c = inr (none depth c (λ q. cc))
          by_class other c = inr (none other c (λ q. cc))

      -- the limit's error is told only where the text is too deep
      deep_only : e.code ≡ ExceededRecursionLimit → (room : ℕ) → IsRoom limit enough_here room → answer_document x table.shapes table.root room text ≡ err deep
      deep_only is room r = rw is at (a room r)

    pub refuses_deep : (result : Result Data SpannedError) → AnswersAsReader x limit table text result → RefusesDeepDocument x limit table text result
    refuses_deep result a d n z beyond = by_limit limit a beyond
      where
        fault : (e : SpannedError) (k : ErrorClass) (room : ℕ) → class_of e.code ≡ k → IsFaultOfText k (answer_document x table.shapes table.root room text)
            → answer_document x table.shapes table.root room text ≡ err deep
            → (e.code ≡ ExceededRecursionLimit) ⊎ (e.code ≡ OutOfMemory)
        fault e memory room c f h = inr (memory_is e.code c)
        fault e depth room c f h = inl (depth_is e.code c)
        fault e other room c f h = absurd (cc)

        at_room : (result : Result Data SpannedError) (room : ℕ) → answer_document x table.shapes table.root room text ≡ err deep
            → MatchResult result (λ d. answer_in room (data_view d))
            (λ refused. IsFaultOfText (class_of refused.code) (answer_document x table.shapes table.root room text))
            → MatchResult result (λ _. ⊥) (λ refused. (refused.code ≡ ExceededRecursionLimit) ⊎ (refused.code ≡ OutOfMemory))
        at_room (Ok e) room h b = cc
        at_room (Err e) room h b = fault e (class_of e.code) room refl b h

        by_limit : (l : Option ℕ) → AnswersAsReader x l table text result → (DocumentWithin x l table text d → ⊥)
            → MatchResult result (λ _. ⊥) (λ refused. (refused.code ≡ ExceededRecursionLimit) ⊎ (refused.code ≡ OutOfMemory))
        by_limit (Some room) b out = at_room result room (laws.too_deep x table.shapes table.root room n text d z out) (b room refl)
        by_limit None b out = absurd (out (n, z))

    -- the layout of data is read back
    module _ (suffixes : Bool) (d written : plain.Data) (is : IsReadBackWith suffixes d written) (spelled : (room : ℕ)
        × Document x table.shapes table.root room text written) (within : IsWithin limit (document_depth x table.shapes table.root text)) where
      back : DocumentWithin x limit table text written
      back = by_limit limit within
        where
          by_limit : (l : Option ℕ) → IsWithin l (document_depth x table.shapes table.root text) → DocumentWithin x l table text written
          by_limit (Some room) w = within_document x table.shapes table.root text written ends spelled.0 room spelled.1 w
          by_limit None w = spelled

      pub read_back : (result : Result Data SpannedError) → AnswersAsReader x limit table text result
          → MatchResult result (λ e. IsReadBackWith suffixes d (data_view e)) (λ refused. refused.code ≡ OutOfMemory)
      read_back (Ok e) a = subst (IsReadBackWith suffixes d) (only_data (data_view e) (document_within limit (data_view e) a) written spelled.0 spelled.1) is
      read_back (Err e) a = elim (refuses e a) [ inl wants ↦ wants | inr none ↦ absurd (none written back) ]

-- the limit's error is told only under a limit
pub only_limited : (x : Extensions) (limit : Option ℕ) (table : Table) → has_no_cycle table.shapes ≡ true → (text : Text) (e : SpannedError)
    → AnswersAsReader x limit table text (Err e) → e.code ≡ ExceededRecursionLimit → IsSome limit
only_limited x (Some room) table ends text e a is = refl
only_limited x None table ends text e a is = absurd (laws.roomy x table.shapes table.root ends (enough_here x table ends text) text (omega arith)
    (deep_only x table ends text None e a is (enough_here x table ends text) (omega arith)))

-- ---- what is written

pub at_own_depth : (x : Extensions) (table : Table) → has_no_cycle table.shapes ≡ true → (text : Text) (d : plain.Data)
    → (room : ℕ) × Document x table.shapes table.root room text d → Document x table.shapes table.root (document_depth x table.shapes table.root text) text d
at_own_depth x table ends text d z = within_document x table.shapes table.root text d ends z.0 (document_depth x table.shapes table.root text) z.1 (omega arith)

readable : (c : Config) (d : plain.Data) → blank c ≡ true → EndsDocs c d → IsReadable c c.docs d
readable c d b (inl none) = record { blank = b; ends = λ h. absurd (let never = ap (λ docs. is_documented c docs d) none ∙ no_doc c d in cc) }
readable c d b (inr ends) = record { blank = b; ends = ends }

-- the layout of data whose names can be written
pub normal_form : {E : Type 0} (x : Extensions) (c : Config) (d : plain.Data) (result : Result (String Global) E)
    → IfOk result (λ s. chars (string_bytes s) ≡ full_layout x c d) → OnOk result (blank c ≡ true) → OnOk result (names_ok d ≡ true)
    → IfOk result (λ s. is_encodable (extensions_under x c).implicit_some d ≡ true → EndsDocs c d → SpellsNormalForm x c d (chars (string_bytes s)))
normal_form x c d (Err e) text blank names = tt
normal_form x c d (Ok s) text blank names = λ held docs table well typed.
    let z = is_read_back c x table.shapes table.root d (readable c d blank docs) well typed held names in (
      z.1,
      z.2,
      subst (λ (t : Text). Document x table.shapes table.root (document_depth x table.shapes table.root t) t z.1) (sym text)
          (at_own_depth x table (no_cycle_in table well) (full_layout x c d) z.1 (z.0, z.3)),
    )

-- ---- each clause of reading a whole text, from its answer

module _ (x : Extensions) (limit : Option ℕ) (table : Table) (ends : has_no_cycle table.shapes ≡ true) (text : Text) where
  pub is_document : (result : Result Data SpannedError) → AnswersAsReader x limit table text result
      → IfOk result (λ d. DocumentWithin x limit table text (data_view d))
  is_document (Ok d) a = document_within x table ends text limit (data_view d) a
  is_document (Err e) a = tt

  pub is_of_schema : (result : Result Data SpannedError) → is_well_formed table.shapes table.root ≡ true → AnswersAsReader x limit table text result
      → IfOk result (λ d. OfShape table.shapes table.root (data_view d))
  is_of_schema (Ok d) well a = of_schema x table ends text limit (data_view d) well (document_within x table ends text limit (data_view d) a)
  is_of_schema (Err e) well a = tt

  pub is_refused : (result : Result Data SpannedError) → AnswersAsReader x limit table text result → IfErr result (RefusesDocument x limit table text)
  is_refused (Ok d) a = tt
  is_refused (Err e) a = refuses x table ends text limit e a

  or_no_document : {P : Type 0} → P ⊎ RefusesWhole x limit table text → P ⊎ IsNoDocument x limit table text
  or_no_document (inl p) = inl p
  or_no_document (inr a) = inr (no_document x table ends text limit a)

  -- what an error tells, from what it says of the reader function
  pub tells : (source : Option Text) (e : SpannedError) → AnswersAsReader x limit table text (Err e) → RefusesRest {A = Data} x limit table text (Err e)
      → IsOfDocument e.code → (e.code ≡ TrailingCharacters → TrailsAt x limit table text e)
      → (IsLeaf table → HasAttribute text ⊎ RefusesWhole x limit table text)
      → (source ≡ Some text → IsString table → (HasAttribute text ⊎ HoldsEscape StringLiteral (skip text)) ⊎ RefusesWhole x limit table text) → HasSpanIn text e
      → TellsKept source x limit table text (Err e)
  tells source e a rest fault trailing leaves strings place = record {
    answer = a;
    rest = rest;
    refused = record {
      fault = fault;
      only_limited = only_limited x limit table ends text e a;
      trailing = trailing;
      memory = λ leaf. or_no_document (leaves leaf);
      string = λ k is. or_no_document (strings k is);
      place = place;
    };
  }

  pub reads_back : (result : Result Data SpannedError) → is_well_formed table.shapes table.root ≡ true → AnswersAsReader x limit table text result
      → ReadsBack x limit table text result
  reads_back result well a c d blank docs typed held names is within =
      let z = is_read_back c x table.shapes table.root d (readable c d blank docs) well typed held names in
      read_back x table ends text limit c.number_suffixes d z.1 z.2
      (subst (λ (t : Text). (room : ℕ) × Document x table.shapes table.root room t z.1) (sym is) (z.0, z.3)) within result a

  is_agreed : scalars text ≡ true → (result : Result Data SpannedError) → AnswersAsReader x limit table text result
      → IfOk result (λ d. AgreesWithValue x table text (data_view d))
  is_agreed w (Err e) a = tt
  is_agreed w (Ok d) a = λ all body head t n e z into_e.
      let r = at_some_depth x table ends text limit (data_view d) (document_within x table ends text limit (data_view d) a) in
      let h : got (in_force x r.1.announced) r.1.body ≡ got no_extensions body =
      sym (laws.head_of x table.shapes table.root r.0 text (data_view d) r.1) ∙ head_exact x text no_extensions body head in
      document_agrees x table.shapes table.root r.0 n text (data_view d) e t all w r.1 (cc) z into_e

  pub is_only : scalars text ≡ true → (result : Result Data SpannedError) → AnswersAsReader x limit table text result
      → IfOk result (λ d. IsOnlyData x table text (data_view d))
  is_only w (Err e) a = tt
  is_only w (Ok d) a = record {
    by_schema = only_data x table ends text limit (data_view d) (document_within x table ends text limit (data_view d) a);
    by_value = is_agreed w (Ok d) a;
  }
