-- What is replied to `why`.
use Rattle.std.specs.Prelude.{◌≡◌, ◌⊎◌, ◌++◌, ◌∷◌, [], ℕ, List, None, Option, Some, codes}
use Rattle.nt_ask.specs.declared.answer.Status.{Status}
use Rattle.nt_ask.specs.declared.answer.Status.TheVariants as exit
use Rattle.nt_friendly.specs.Text.{strict_text}
use Rattle.nt_lab.specs.Replies.{memory_line}
use Rattle.nt_lab_words.specs.declared.words.TheConstants.{USUAL}
use Rattle.nt_lab_words.specs.declared.words.ThingKind.{ThingKind}
use Rattle.nt_lab_words.specs.declared.words.ThingKind.TheVariants.{Apc, Dpc, Interrupt, Thread, Timer}
use Rattle.nt_lab_words.specs.Words.{kind_word}
use Rattle.nt_shown.specs.declared.showing.ShownRun.{ShownRun}
use Rattle.nt_shown.specs.Shown.{IsShown}
use Rattle.nt_script.specs.declared.walk.Input.{Input}
use Rattle.nt_why.specs.declared.things.Thing.{Thing}
use Rattle.nt_why.specs.Words.{read_interrupt_words, read_words}
use Rattle.nt_bench.specs.declared.friendly.Friendly.{Friendly}
use Rattle.nt_bench.specs.declared.friendly.Named.{Named}
use Rattle.nt_bench.specs.Running.{IsRefusedIn}

-- the thing of this kind that the words name, if the script has it
abbrev pub thing_named : Input → ThingKind → Named → Option Thing
thing_named input Dpc n = read_words input.names (kind_word Dpc) n.thing.now
thing_named input Apc n = read_words input.names (kind_word Apc) n.thing.now
thing_named input Thread n = read_words input.names (kind_word Thread) n.thing.now
thing_named input Timer n = read_words input.names (kind_word Timer) n.thing.now
thing_named input Interrupt n = read_interrupt_words input.script.cpus n.thing.now n.level.now

-- the words that name a thing of this kind
abbrev pub name_text : ThingKind → Named → List ℕ
name_text Dpc n = n.thing.now
name_text Apc n = n.thing.now
name_text Thread n = n.thing.now
name_text Timer n = n.thing.now
name_text Interrupt n = n.thing.now ++ (32 ∷ n.level.now)

-- the text on a thing that the script does not have
abbrev pub no_thing_text : ThingKind → Named → List ℕ
no_thing_text kind n = codes "the script has no " ++ (kind_word kind ++ (32 ∷ (name_text kind n ++ 10 ∷ [])))

-- the script of the run has no such thing, and the text says so
abbrev pub IsNoThing : ShownRun → ThingKind → Named → List ℕ → Type 0
IsNoThing r kind n text = (thing_named r.input kind n ≡ None) × (text ≡ no_thing_text kind n)

-- the script of the run has the thing; the reasons are in words
abbrev pub IsReasonsText : ShownRun → ThingKind → Named → List ℕ → Type 0
IsReasonsText r kind n text = (thing : Thing) × (thing_named r.input kind n ≡ Some thing)

-- what is replied with a run: reasons, or that there is no such thing
abbrev pub IsReasonsReply : ShownRun → ThingKind → Named → Status → List ℕ → Type 0
IsReasonsReply r kind n exit.Ok text = IsReasonsText r kind n text
IsReasonsReply r kind n exit.Refused text = IsNoThing r kind n text
IsReasonsReply r kind n exit.Memory text = text ≡ memory_line
IsReasonsReply r kind n exit.Fails text = ⊥
IsReasonsReply r kind n exit.Unknown text = ⊥
IsReasonsReply r kind n exit.NoExpectation text = ⊥
IsReasonsReply r kind n exit.NoWitness text = ⊥
IsReasonsReply r kind n exit.TooManyTurns text = ⊥
IsReasonsReply r kind n exit.Usage text = ⊥
IsReasonsReply r kind n exit.Read text = ⊥
IsReasonsReply r kind n exit.Write text = ⊥
IsReasonsReply r kind n exit.TooLong text = ⊥

-- the run that the text shows by the robin rule, unless a report or schedule stands behind the script
abbrev pub IsOfUsual : Friendly → ShownRun → Type 0
IsOfUsual f r = IsShown (strict_text f.bytes.now) USUAL r

-- what is replied to `why`
abbrev pub IsWhyReply : ThingKind → Friendly → Status → List ℕ → Type 0
IsWhyReply kind f exit.Ok text = (r : ShownRun) × IsOfUsual f r × IsReasonsText r kind f.named text
IsWhyReply kind f exit.Refused text = IsRefusedIn f text ⊎
    ((r : ShownRun) × IsOfUsual f r × IsNoThing r kind f.named text)
IsWhyReply kind f exit.Memory text = text ≡ memory_line
IsWhyReply kind f exit.Fails text = ⊥
IsWhyReply kind f exit.Unknown text = ⊥
IsWhyReply kind f exit.NoExpectation text = ⊥
IsWhyReply kind f exit.NoWitness text = ⊥
IsWhyReply kind f exit.TooManyTurns text = ⊥
IsWhyReply kind f exit.Usage text = ⊥
IsWhyReply kind f exit.Read text = ⊥
IsWhyReply kind f exit.Write text = ⊥
IsWhyReply kind f exit.TooLong text = ⊥
