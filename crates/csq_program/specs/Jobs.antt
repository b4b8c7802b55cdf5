-- What the program may be asked to do.
use Rattle.std.specs.Prelude.{◌≡◌, ◌≢◌, ◌⊎◌, ℕ, ◌+◌, ◌<◌, ◌≤◌, Bool, true, false, List, codes, decimal, Option, None, Some, IfSome}
use Rattle.clap.specs.declared.error.kind.ErrorKind.{ErrorKind}
use Rattle.clap.specs.Matches.{found_of, first_value, one_text}
use Rattle.clap.specs.Values.{kind_of}
use Rattle.clap.specs.declared.parser.matches.ArgMatches.{ArgMatches}
use Rattle.irp_core.specs.Runs.{IsInLimits}
use Rattle.csq_list.specs.AnyLists.{is_chained}
use Rattle.csq_device.specs.Plans.{AreBusyWorkers, IsPlan}
use Rattle.csq_device.specs.declared.plan.Plan.{Plan}
use Rattle.csq_program.specs.declared.command.{Job.{Job, TheVariants.{Schedule, Draw, Script, Run}}, CommandFault.{CommandFault, TheVariants.{Memory, Refused, BusyWorkers, Crossed, NoSuchIrp}}}
use Rattle.csq_draw.specs.declared.view.Window.{Window}
use Rattle.csq_program.specs.Parts.{is_text, window_of, IsPart}
use Rattle.csq_program.specs.declared.source.Source.{Source, TheVariants.{Standard, File}}

-- each number is in its range
abbrev pub IsInRange : Job → Type 0
IsInRange (Schedule source irps passes claims explain wrong) = IsInLimits (record { irps = irps; passes = passes; first = 0 })
IsInRange (Draw source irps passes view to) = IsInLimits (record { irps = irps; passes = passes; first = 0 }) × IsPart irps view.window to
IsInRange (Script source irps files limit file_limit list explain) = ((1 ≤ irps) × (irps ≤ 1024)) × ((1 ≤ files) × (files ≤ 256)) × IfSome limit (λ n. (1 ≤ n) × (n ≤ 1024)) × IfSome file_limit (λ n. (1 ≤ n) × (n ≤ 1024))
IsInRange (Run plan list totals repeat) = IsPlan plan.irps plan.files plan.submitters plan.workers plan.cancellers plan.turns × AreBusyWorkers plan.submitters plan.workers plan.cancellers plan.busy_workers × ((1 ≤ repeat) × (repeat ≤ 1000))

-- the command of this name, of which any but a picture's, a script's and a run's is a schedule's
abbrev pub IsJobOf : List ℕ → Job → Type 0
IsJobOf name (Schedule source irps passes claims explain wrong) = (name ≢ codes "draw") × (name ≢ codes "script") × (name ≢ codes "run")
IsJobOf name (Draw source irps passes view to) = name ≡ codes "draw"
IsJobOf name (Script source irps files limit file_limit list explain) = name ≡ codes "script"
IsJobOf name (Run plan list totals repeat) = name ≡ codes "run"

-- a flag of this name: whether the options have it set
pub record IsFlag (options : ArgMatches) (name : List ℕ) (flag : Bool) : Type 0 where
  pub set : one_text (found_of options) name ≡ Some (codes "true") → flag ≡ true
  pub clear : one_text (found_of options) name ≡ Some (codes "false") → flag ≡ false
  pub absent : one_text (found_of options) name ≡ None → flag ≡ false

-- the job's flags, if it has some, are those of the options
abbrev pub ReportsJobFlag : ArgMatches → Job → Type 0
ReportsJobFlag options (Schedule source irps passes claims explain wrong) = IsFlag options (codes "claims") claims × IsFlag options (codes "explain") explain × IsFlag options (codes "wrong") wrong
ReportsJobFlag options (Draw source irps passes view to) = IsFlag options (codes "text") (is_text view.format) × IsFlag options (codes "wrong") view.wrong
ReportsJobFlag options (Script source irps files limit file_limit list explain) = IsFlag options (codes "chain") (is_chained list) × IsFlag options (codes "explain") explain
ReportsJobFlag options (Run plan list totals repeat) = IsFlag options (codes "chain") (is_chained list) × IsFlag options (codes "totals") totals

-- the file that is named, other than by a hyphen, or if there is none standard input
abbrev pub IsSource : ArgMatches → Source → Type 0
IsSource options Standard = (first_value (found_of options) (codes "file") ≡ None) ⊎ (first_value (found_of options) (codes "file") ≡ Some (codes "-"))
IsSource options (File name) = (first_value (found_of options) (codes "file") ≡ Some name.now) × (name.now ≢ codes "-")

-- the job's source, if it has one, is that of the options
abbrev pub ReportsSource : ArgMatches → Job → Type 0
ReportsSource options (Schedule source irps passes claims explain wrong) = IsSource options source
ReportsSource options (Draw source irps passes view to) = IsSource options source
ReportsSource options (Script source irps files limit file_limit list explain) = IsSource options source
ReportsSource options (Run plan list totals repeat) = Unit {0}

-- an option of this name: the number that its text writes, if that is from 1 to `most`, and the default without a text
pub record IsNumberOption (options : ArgMatches) (name : List ℕ) (most default number : ℕ) : Type 0 where
  pub given : (n : ℕ) → 1 ≤ n → n ≤ most → one_text (found_of options) name ≡ Some (decimal n) → number ≡ n
  pub absent : one_text (found_of options) name ≡ None → number ≡ default

-- an option of this name, which may be 0: the number that its text writes, if that is up to `most`, and 0 without a text
pub record IsCountOption (options : ArgMatches) (name : List ℕ) (most number : ℕ) : Type 0 where
  pub given : (n : ℕ) → n ≤ most → one_text (found_of options) name ≡ Some (decimal n) → number ≡ n
  pub absent : one_text (found_of options) name ≡ None → number ≡ 0

-- an option of this name without a default: the number that its text writes, if that is from `least` to `most`, and none without a text
pub record IsGivenNumber (options : ArgMatches) (name : List ℕ) (least most : ℕ) (number : Option ℕ) : Type 0 where
  pub given : (n : ℕ) → least ≤ n → n ≤ most → one_text (found_of options) name ≡ Some (decimal n) → number ≡ Some n
  pub absent : one_text (found_of options) name ≡ None → number ≡ None

-- the numbers of threads of each kind are those of the options
pub record AreThreads (options : ArgMatches) (submitters workers cancellers busy_workers : ℕ) : Type 0 where
  pub submitters_are : IsNumberOption options (codes "submitters") 20 2 submitters
  pub workers_are : IsNumberOption options (codes "workers") 20 2 workers
  pub cancellers_are : IsNumberOption options (codes "cancellers") 20 2 cancellers
  pub busy_workers_are : IsCountOption options (codes "busy-workers") 20 busy_workers

-- the numbers of a plan are those of the options
pub record ArePlanned (options : ArgMatches) (plan : Plan) : Type 0 where
  pub irps : IsNumberOption options (codes "irps") 1024 64 plan.irps
  pub files : IsNumberOption options (codes "files") 256 4 plan.files
  pub threads : AreThreads options plan.submitters plan.workers plan.cancellers plan.busy_workers
  pub turns : IsNumberOption options (codes "turns") 100000 64 plan.turns

-- the busy workers of the options are more than the passes that the other threads leave, 63 in all
pub record AreTooMany (options : ArgMatches) (busy_workers left : ℕ) : Type 0 where
  pub submitters : ℕ
  pub workers : ℕ
  pub cancellers : ℕ
  pub threads : AreThreads options submitters workers cancellers busy_workers
  pub left_is : submitters + workers + cancellers + left ≡ 63
  pub more : left < busy_workers

-- which steps are drawn is what the options say: all, unless they name a line to begin with or an IRP
pub record IsWindow (options : ArgMatches) (window : Option Window) : Type 0 where
  pub from : Option ℕ
  pub irp : Option ℕ
  pub from_is : IsGivenNumber options (codes "from") 1 1048577 from
  pub irp_is : IsGivenNumber options (codes "irp") 0 1023 irp
  pub window_is : window ≡ window_of from irp

-- the line that the options have a picture begin with is above the one that they have it end with
pub record AreCrossed (options : ArgMatches) (from to : ℕ) : Type 0 where
  pub from_is : IsGivenNumber options (codes "from") 1 1048577 (Some from)
  pub to_is : IsGivenNumber options (codes "to") 1 1048577 (Some to)
  pub above : to < from

-- the options ask for the steps of an IRP whose number isn't below the number of IRPs
pub record IsNoIrp (options : ArgMatches) (irp irps : ℕ) : Type 0 where
  pub irp_is : IsGivenNumber options (codes "irp") 0 1023 (Some irp)
  pub irps_are : IsNumberOption options (codes "irps") 1024 8 irps
  pub beyond : irps ≤ irp

-- a command of this name has these options refused so: a run for its busy workers, a picture for its lines or its IRP
abbrev pub RefusesOptions : List ℕ → ArgMatches → CommandFault → Type 0
RefusesOptions name options (BusyWorkers refused) = (name ≡ codes "run") × AreTooMany options refused.busy_workers refused.left
RefusesOptions name options (Crossed refused) = (name ≡ codes "draw") × AreCrossed options refused.from refused.to
RefusesOptions name options (NoSuchIrp refused) = (name ≡ codes "draw") × IsNoIrp options refused.irp refused.irps
RefusesOptions name options _ = ⊥

-- the job's numbers are those of the options
abbrev pub ReportsNumbers : ArgMatches → Job → Type 0
ReportsNumbers options (Schedule source irps passes claims explain wrong) = IsNumberOption options (codes "irps") 1024 8 irps × IsNumberOption options (codes "passes") 64 4 passes
ReportsNumbers options (Draw source irps passes view to) = IsNumberOption options (codes "irps") 1024 8 irps × IsNumberOption options (codes "passes") 64 4 passes × IsGivenNumber options (codes "to") 1 1048577 to × IsWindow options view.window
ReportsNumbers options (Script source irps files limit file_limit list explain) = IsNumberOption options (codes "irps") 1024 8 irps × IsNumberOption options (codes "files") 256 4 files × IsGivenNumber options (codes "limit") 1 1024 limit × IsGivenNumber options (codes "file-limit") 1 1024 file_limit
ReportsNumbers options (Run plan list totals repeat) = ArePlanned options plan × IsNumberOption options (codes "repeat") 1000 1 repeat

-- the number of a fault
abbrev pub fault_number : CommandFault → ℕ
fault_number Memory = 1
fault_number (Refused error) = 2
fault_number (BusyWorkers refused) = 3
fault_number (Crossed refused) = 4
fault_number (NoSuchIrp refused) = 5

-- of a command line that was refused for a reason of this kind, or there is too little memory
abbrev pub IsRefusalOf : ErrorKind → CommandFault → Type 0
IsRefusalOf kind Memory = Unit
IsRefusalOf kind (Refused error) = kind_of error ≡ kind
IsRefusalOf kind _ = ⊥
