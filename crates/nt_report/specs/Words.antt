-- The words of an event's line.
use Rattle.std.specs.Prelude.{ℕ, List, Option, codes, find}
use Rattle.std.specs.Str.{bytes_eq}
use Rattle.nt_event.specs.declared.commands.ApcKind.TheVariants as kind
use Rattle.nt_report.specs.declared.words.EventWord.{EventWord}
use Rattle.nt_report.specs.declared.words.EventWord.TheVariants as event
use Rattle.nt_report.specs.declared.words.BegunWord.{BegunWord}
use Rattle.nt_report.specs.declared.words.BegunWord.TheVariants as begun
use Rattle.nt_report.specs.declared.words.ReplyWord.{ReplyWord}
use Rattle.nt_report.specs.declared.words.ReplyWord.TheVariants as reply
use Rattle.nt_report.specs.declared.words.TheConstants.{EVENT_WORDS, BEGUN_WORDS, REPLY_WORDS}

-- what an event did
abbrev pub event_text : EventWord → List ℕ
event_text event.Call = codes "call"
event_text event.Begin = codes "begin"
event_text event.Normal = codes "normal"
event_text event.End = codes "end"
event_text event.Expire = codes "expire"
event_text event.Fire = codes "fire"
event_text event.Clean = codes "clean"
event_text event.Switch = codes "switch"
event_text event.Rewait = codes "rewait"
event_text event.Flush = codes "flush"
event_text event.Gone = codes "gone"
event_text event.Free = codes "free"
event_text event.Rest = codes "rest"

unfoldable pub event_word : List ℕ → Option EventWord
event_word field = find (λ w. bytes_eq field (event_text w)) EVENT_WORDS

-- what was begun
abbrev pub begun_text : BegunWord → List ℕ
begun_text begun.Int = codes "int"
begun_text begun.Dpc = codes "dpc"
begun_text begun.Threaded = codes "threaded"
begun_text (begun.Apc kind.Special) = codes "special"
begun_text (begun.Apc kind.Normal) = codes "normal"
begun_text (begun.Apc kind.User) = codes "user"

unfoldable pub begun_word : List ℕ → Option BegunWord
begun_word field = find (λ w. bytes_eq field (begun_text w)) BEGUN_WORDS

-- what was replied
abbrev pub reply_text : ReplyWord → List ℕ
reply_text reply.Done = codes "done"
reply_text reply.Yes = codes "yes"
reply_text reply.No = codes "no"
reply_text reply.Status = codes "status"
reply_text reply.Blocked = codes "blocked"
reply_text reply.Spin = codes "spin"
reply_text reply.Refused = codes "refused"

unfoldable pub reply_word : List ℕ → Option ReplyWord
reply_word field = find (λ w. bytes_eq field (reply_text w)) REPLY_WORDS
