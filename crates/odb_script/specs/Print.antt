-- What is written: a line for each outcome.
use Rattle.std.specs.Prelude.{ℕ, Bool, true, false, List, [], ◌∷◌, ◌++◌, length, codes, slice_get, Option, Some, None}
use Rattle.std.specs.List.{flat_map}
use Rattle.std.specs.Fmt.{decimal}
use Rattle.hex.specs.Hex.{encode_lower}
use Rattle.odb_base.specs.Path.{Path, text_of}
use Rattle.gix_hash.specs.ObjectId.{hex_of}
use Rattle.gix_object.specs.Kind.{kind_word}
use Rattle.gix_odb_calls.specs.declared.step.Outcome.{Outcome}
use Rattle.gix_odb_calls.specs.declared.step.Outcome.TheVariants as comes
use Rattle.gix_odb_calls.specs.declared.step.Why.{Why}
use Rattle.gix_odb_calls.specs.declared.step.Why.TheVariants.{HandleTaken, BadOpen, NoHandle, NotRunning, Busy, WrongHash, ImpossibleChange, TwoContents}
use Rattle.gix_odb_calls.specs.declared.call.Reply.{Reply}
use Rattle.gix_odb_calls.specs.declared.call.Reply.TheVariants as replies
use Rattle.gix_odb_calls.specs.declared.call.CallError.{CallError}
use Rattle.gix_odb_calls.specs.declared.call.CallError.TheVariants as call_errors
use Rattle.gix_odb_calls.specs.declared.init.Error as opening
use Rattle.gix_odb_calls.specs.declared.init.Error.TheVariants as opening_errors
use Rattle.gix_odb_calls.specs.declared.find.Header.{Header}
use Rattle.gix_odb_calls.specs.declared.find.Header.TheVariants.{Loose, Packed}
use Rattle.gix_odb_calls.specs.declared.find.Error as finding
use Rattle.gix_odb_calls.specs.declared.find.Error.TheVariants as find_errors
use Rattle.gix_odb_calls.specs.declared.load_index.Error as load_index
use Rattle.gix_odb_calls.specs.declared.load_index.Error.TheVariants as load_index_errors
use Rattle.gix_odb_calls.specs.declared.write.Error as writing
use Rattle.gix_odb_calls.specs.declared.write.Error.TheVariants as write_errors
use Rattle.gix_odb_loose.specs.declared.write.Error as loose_write
use Rattle.gix_odb_loose.specs.declared.write.Error.TheVariants as loose_write_errors
use Rattle.gix_odb_loose.specs.declared.find.Error as loose
use Rattle.gix_odb_loose.specs.declared.find.Error.TheVariants as loose_errors

-- data as lower-case hex, or `-` for nothing
abbrev pub data_text : List ℕ → List ℕ
data_text [] = codes "-"
data_text (byte ∷ bytes) = encode_lower (byte ∷ bytes)

abbrev pub why_text : Why → List ℕ
why_text HandleTaken = codes "handle-taken"
why_text BadOpen = codes "bad-open"
why_text NoHandle = codes "no-handle"
why_text NotRunning = codes "not-running"
why_text Busy = codes "busy"
why_text WrongHash = codes "wrong-hash"
why_text ImpossibleChange = codes "impossible-change"
why_text TwoContents = codes "two-contents"

-- the number of packs that a multi-pack index names, and its path
abbrev pub too_many_packs_text : ℕ → Path → List ℕ
too_many_packs_text actual path = (codes "too-many-packs " ++ decimal actual) ++ (codes " " ++ text_of path)

abbrev pub load_index_text : load_index.Error → List ℕ
load_index_text load_index_errors.Io = codes "io"
load_index_text (load_index_errors.InsufficientSlots current needed) = (codes "insufficient-slots " ++ decimal current) ++ (codes " " ++ decimal needed)
load_index_text load_index_errors.GenerationOverflow = codes "generation-overflow"
load_index_text (load_index_errors.TooManyPacksInMultiIndex actual limit path) = too_many_packs_text actual path
load_index_text (load_index_errors.Unsettled begun own now) =
    (codes "unsettled " ++ decimal begun) ++ (codes " " ++ decimal own) ++ (codes " " ++ decimal now)
load_index_text load_index_errors.NoMemory = codes "no-memory"

abbrev pub labelled_load_index : load_index.Error → List ℕ
labelled_load_index error = codes "load-index " ++ load_index_text error

abbrev pub opening_text : opening.Error → List ℕ
opening_text opening_errors.NotADirectory = codes "not-a-directory"
opening_text (opening_errors.TooManySlots asked) = codes "too-many-slots " ++ decimal asked
opening_text opening_errors.Io = codes "io"
opening_text (opening_errors.LoadIndex error) = labelled_load_index error
opening_text opening_errors.NoMemory = codes "no-memory"

abbrev pub sizes_text : ℕ → ℕ → List ℕ
sizes_text expected actual = (codes "size-mismatch " ++ decimal expected) ++ (codes " " ++ decimal actual)

abbrev pub loose_text : loose.Error → List ℕ
loose_text (loose_errors.SizeMismatch actual expected path) = sizes_text expected actual
loose_text loose_errors.Decode = codes "decode"
loose_text (loose_errors.Io action path) = codes "io " ++ text_of path
loose_text (loose_errors.OutOfMemory size) = codes "out-of-memory " ++ decimal size
loose_text loose_errors.NoMemory = codes "no-memory"

abbrev pub find_text : finding.Error → List ℕ
find_text (find_errors.Loose error) = codes "loose " ++ loose_text error
find_text find_errors.Pack = codes "pack"
find_text (find_errors.LoadIndex error) = labelled_load_index error
find_text find_errors.LoadPack = codes "load-pack"
find_text (find_errors.EntryType code) = codes "entry-type " ++ decimal code
find_text find_errors.DeltaEntry = codes "delta-entry"
find_text (find_errors.OutOfMemory size) = codes "out-of-memory " ++ decimal size
find_text find_errors.NoMemory = codes "no-memory"

abbrev pub loose_write_text : loose_write.Error → List ℕ
loose_write_text (loose_write_errors.Io message path) = codes "io"
loose_write_text loose_write_errors.IoRaw = codes "io-raw"
loose_write_text (loose_write_errors.Persist target) = codes "persist"
loose_write_text (loose_write_errors.SizeMismatch expected actual) = sizes_text expected actual
loose_write_text loose_write_errors.NoMemory = codes "no-memory"

abbrev pub write_text : writing.Error → List ℕ
write_text (write_errors.LooseWrite error) = loose_write_text error
write_text (write_errors.LoadIndex error) = labelled_load_index error
write_text write_errors.NoMemory = codes "no-memory"

abbrev pub error_text : CallError → List ℕ
error_text (call_errors.Open error) = codes "open " ++ opening_text error
error_text (call_errors.Find error) = find_text error
error_text (call_errors.Write error) = codes "write " ++ write_text error

abbrev pub header_text : Header → List ℕ
header_text (Loose kind size) = kind_word kind ++ codes " " ++ decimal size ++ codes " loose"
header_text (Packed kind size) = kind_word kind ++ codes " " ++ decimal size ++ codes " packed"

abbrev pub yes_or_no : Bool → List ℕ
yes_or_no true = codes "yes"
yes_or_no false = codes "no"

abbrev pub reply_text : Reply → List ℕ
reply_text (replies.Opened slots) = codes "opened " ++ decimal slots
reply_text (replies.Found kind bytes) = codes "found " ++ kind_word kind ++ codes " " ++ decimal (length bytes) ++ codes " " ++ data_text bytes
reply_text (replies.Header header) = codes "header " ++ header_text header
reply_text (replies.Tested there) = codes "test " ++ yes_or_no there
reply_text (replies.Wrote id) = codes "wrote " ++ hex_of id
reply_text replies.NotFound = codes "not-found"
reply_text (replies.Refused error) = codes "error " ++ error_text error

-- the line of an outcome, without its line feed
abbrev pub printed : Outcome → List ℕ
printed comes.Applied = codes "applied"
printed comes.Pending = codes "pending"
printed (comes.Reply reply) = reply_text reply
printed (comes.Misuse why) = codes "misuse " ++ why_text why

-- the line of an outcome with its line feed, if there is one at the place
abbrev pub line_of : Option Outcome → List ℕ
line_of None = []
line_of (Some outcome) = printed outcome ++ codes "\n"

-- a line for the outcome at each place
unfoldable pub printed_at : List Outcome → List ℕ → List ℕ
printed_at outcomes places = flat_map (λ place. line_of (slice_get outcomes place)) places
