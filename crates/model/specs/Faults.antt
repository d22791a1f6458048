-- Faults: their layers, their numbers, and the order in which a call finds them.
use Rattle.std.specs.Prelude.{ℕ, Bool, true, false, Some, None, Ok, Err, Option, Result}
use Rattle.model.specs.declared.fault.Layer.{Layer}
use Rattle.model.specs.declared.fault.Layer.TheVariants.{Text, Heap, File}
use Rattle.model.specs.declared.fault.Cause.{Cause}
use Rattle.model.specs.declared.fault.Cause.TheVariants.{CellNumber, CellFilled, CellSize, CellEmpty}
use Rattle.model.specs.declared.fault.Cause.TheVariants.{RecordNumber, RecordFilled, RecordEmpty, StrengthNumber}
use Rattle.model.specs.declared.fault.Cause.TheVariants.{RowsShort, CellsShort, RecordsShort}
use Rattle.model.specs.declared.fault.Cause.TheVariants.{StepsShort, NotSettled, LimitNumber}
use Rattle.model.specs.declared.fault.Cause.TheVariants.{FileLength, LeadBytes, SectionPlace, SectionLength}
use Rattle.model.specs.declared.fault.Cause.TheVariants.{FieldRange, NumberOrder, RecordTwice, CellMissing}
use Rattle.model.specs.declared.fault.Cause.TheVariants.{LineLong, NoCommand, WordCount, BadWord}
use Rattle.model.specs.declared.fault.Fault.{Fault}

-- the number of each cause: the one table of them
abbrev pub number_of : Cause → ℕ
number_of CellNumber = 1
number_of CellFilled = 2
number_of CellSize = 3
number_of RecordNumber = 4
number_of RecordFilled = 5
number_of CellEmpty = 6
number_of StrengthNumber = 7
number_of RecordEmpty = 8
number_of RowsShort = 9
number_of CellsShort = 10
number_of RecordsShort = 11
number_of StepsShort = 11
number_of NotSettled = 12
number_of LimitNumber = 13
number_of FileLength = 20
number_of LeadBytes = 21
number_of SectionPlace = 22
number_of SectionLength = 23
number_of FieldRange = 24
number_of NumberOrder = 25
number_of RecordTwice = 26
number_of CellMissing = 27
number_of LineLong = 30
number_of NoCommand = 31
number_of WordCount = 32
number_of BadWord = 33

-- 30 and above are the text's, 20 to 27 the file's, the others the heap's
abbrev pub layer_of : Cause → Layer
layer_of CellNumber = Heap
layer_of CellFilled = Heap
layer_of CellSize = Heap
layer_of RecordNumber = Heap
layer_of RecordFilled = Heap
layer_of CellEmpty = Heap
layer_of StrengthNumber = Heap
layer_of RecordEmpty = Heap
layer_of RowsShort = Heap
layer_of CellsShort = Heap
layer_of RecordsShort = Heap
layer_of StepsShort = Heap
layer_of NotSettled = Heap
layer_of LimitNumber = Heap
layer_of FileLength = File
layer_of LeadBytes = File
layer_of SectionPlace = File
layer_of SectionLength = File
layer_of FieldRange = File
layer_of NumberOrder = File
layer_of RecordTwice = File
layer_of CellMissing = File
layer_of LineLong = Text
layer_of NoCommand = Text
layer_of WordCount = Text
layer_of BadWord = Text

-- t, h and f
abbrev pub letter_of : Layer → ℕ
letter_of Text = 116
letter_of Heap = 104
letter_of File = 102

abbrev pub fault : Cause → ℕ → Fault
fault c p = record { cause = c; place = p }

-- a fault where the test fails
abbrev pub unless : Bool → Fault → Option Fault
unless true f = None
unless false f = Some f

-- the first fault of two
abbrev pub first : Option Fault → Option Fault → Option Fault
first None g = g
first (Some f) g = Some f

-- what a call answers: the value where there is no fault
abbrev pub answer : {A : Type 0} → Option Fault → A → Result A Fault
answer None a = Ok a
answer (Some f) a = Err f

-- what a call leaves: the new where there is no fault, else the old
abbrev pub left : {A : Type 0} → Option Fault → A → A → A
left None new old = new
left (Some f) new old = old
