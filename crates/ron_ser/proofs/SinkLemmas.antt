-- Data that was put into a sink, as it is answered.
use Rattle.std.proofs.Common.{◌≡◌, ℕ, Bool, Option, Result, Ok, Err, List, [], inl, inr, subst, ◌∙◌, append-nil}
use Rattle.std.specs.Result.{MatchResult, OnOk, OnErr, IfErr}
use Rattle.std.specs.Borrow.{GName}
use Rattle.std.specs.Io.KnownBytes.{Appends}
use Rattle.ron_base.specs.declared.error.Error.{Error}
use Rattle.ron_base.specs.declared.error.Error.TheVariants.{Io, Message, OutOfMemory}
use Rattle.ron_spec_grammar.specs.Data.{Data}
use Rattle.ron_spec_layout.specs.Config.{Config}
use Rattle.ron_spec_layout.specs.Name.{first_refused}
use Rattle.ron_base_device.specs.declared.gathered.Gathered.{Gathered}
use Rattle.ron_base_device.specs.Device.{RefusesDevice, TakesFront}
use Rattle.ron_base_device.specs.Gathered.{Gathers, Loses, held, sink_of, name_of}
use Rattle.ron_base_device.specs.Output.{StopsText}
use Rattle.ron_base_device.proofs.GatherLemmas.{gathers_both, loses_behind}
use Rattle.ron_base_device.proofs.SinkLemmas.{gathered_front, gathered_broken, all_taken, front_taken}
use Rattle.ron_ser.specs.Refusals.{RefusesWriting, RefusesData, RefusesSink, HoldsName}

-- ---- refusals

writing_refuses_sink : (failed : Bool) (c : Config) (limit : Option ℕ) (d : Data) (e : Error) → RefusesWriting c limit d e → RefusesSink failed c limit d e
writing_refuses_sink failed c limit d OutOfMemory h = tt
writing_refuses_sink failed c limit d (Message given) h = absurd h
writing_refuses_sink failed c limit d (Io text) h = absurd h
writing_refuses_sink failed c limit d _ h = h

device_refuses_sink : (failed : Bool) (c : Config) (limit : Option ℕ) (d : Data) (e : Error) → RefusesDevice failed e
    → RefusesSink failed c limit d e × HoldsName (first_refused d) e
device_refuses_sink failed c limit d OutOfMemory h = (tt, tt)
device_refuses_sink failed c limit d (Io text) h = (h, tt)
device_refuses_sink failed c limit d _ h = absurd h

module _ {S : Type 0} (failed : S → Bool) (contents : S → Option (List ℕ)) (device : S → Option GName) (c : Config) (limit : Option ℕ) (d : Data)
    {bytes : List ℕ} {g h : Gathered S} (e : Error) (stopped : StopsText (Gathers failed contents device) (Loses contents device)
    (λ g e. RefusesDevice (failed (sink_of g)) e) (RefusesData c limit d) g bytes h e) where
  pub some_lost : Loses contents device g bytes h
  some_lost = elim stopped [
    | inl k ↦ gathered_front failed contents device k.1
    | inr k ↦ gathered_broken failed contents device k.1
  ]

  pub sink_refused : RefusesSink (failed (sink_of h)) c limit d e × HoldsName (first_refused d) e
  sink_refused = elim stopped [
    | inl k ↦ (writing_refuses_sink (failed (sink_of h)) c limit d e k.0.0, k.0.1)
    | inr k ↦ device_refuses_sink (failed (sink_of h)) c limit d e k.0
  ]

-- ---- and all of it is passed on

module _ {S : Type 0} (failed : S → Bool) (contents : S → Option (List ℕ)) (device : S → Option GName) {bytes : List ℕ} {first last : Gathered S}
    (g : Gathered S) (none_held : held first ≡ []) (came : Gathers failed contents device first bytes last) where
  abbrev pub Passed : Result (Unit {0}) Error → Type 0
  Passed r = MatchResult r (λ _. Gathers failed contents device last [] g) (λ e. Loses contents device last [] g × RefusesDevice (failed (sink_of g)) e)

  whole : Gathers failed contents device last [] g → Gathers failed contents device first bytes g
  whole h = subst (λ t. Gathers failed contents device first t g) (append-nil bytes) (gathers_both came h)

  pub passed_taken : (r : Result (Unit {0}) Error) → Passed r → OnOk r (held g ≡ []) → OnOk r (Appends (contents (sink_of first)) (contents (sink_of g)) bytes)
  passed_taken (Ok x) h left = all_taken none_held (whole h) left
  passed_taken (Err e) h left = tt

  pub passed_kept : (r : Result (Unit {0}) Error) → Passed r → OnOk r (failed (sink_of g) ≡ failed (sink_of first))
  passed_kept (Ok x) h = (whole h).kept
  passed_kept (Err e) h = tt

  pub passed_front : (r : Result (Unit {0}) Error) → Passed r → OnErr r (TakesFront (contents (sink_of first)) (contents (sink_of g)) bytes)
  passed_front (Ok x) h = tt
  passed_front (Err e) h = front_taken none_held (subst (λ t. Loses contents device first t g) (append-nil bytes) (loses_behind came h.0))

  pub passed_refused : (c : Config) (limit : Option ℕ) (d : Data) (r : Result (Unit {0}) Error) → Passed r
      → IfErr r (RefusesSink (failed (sink_of g)) c limit d)
  passed_refused c limit d (Ok x) h = tt
  passed_refused c limit d (Err e) h = (device_refuses_sink (failed (sink_of g)) c limit d e h.1).0

  pub passed_same : (r : Result (Unit {0}) Error) → Passed r → (device (sink_of g) ≡ device (sink_of first)) × (name_of g ≡ name_of first)
  passed_same (Ok x) h = (h.same ∙ came.same, h.same_sink ∙ came.same_sink)
  passed_same (Err e) h = (h.0.same ∙ came.same, h.0.same_sink ∙ came.same_sink)
