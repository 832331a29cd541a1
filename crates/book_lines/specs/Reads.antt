-- Answers of readers.
use Rattle.std.specs.Prelude.{Option, Result}
use Rattle.std.specs.Prelude.{Some, None, Ok, Err}
use Rattle.book_lines.specs.declared.fault.LineFault.{LineFault}
use Rattle.book_lines.specs.declared.fault.LineError.{LineError}
use Rattle.book_lines.specs.declared.fault.LineError.TheVariants.{Fault, Memory}
use Rattle.book_lines.specs.Values.{Level}
use Rattle.book_lines.specs.Values.Level.{Whole}
use Rattle.book_lines.specs.Faults.{IsFaultOf}

-- a value that has the form, or none where no value has it
abbrev pub Reads : {V : Type 0} → (V → Type 0) → Option V → Type 0
Reads Form None = (v : _) → Form v → ⊥
Reads Form (Some v) = Form v

-- a value that is stated, or what is wrong
abbrev pub ReadsOrFaults : {V : Type 0} → (Level → V → Type 0) → Result V LineFault → Type 0
ReadsOrFaults States (Ok v) = States Whole v
ReadsOrFaults States (Err why) = IsFaultOf States why

-- what is wrong, want of memory aside
abbrev pub IsErrorOf : {V : Type 0} → (Level → V → Type 0) → LineError → Type 0
IsErrorOf States (Fault why) = IsFaultOf States why
IsErrorOf States Memory = Unit {0}

-- a value that is stated, or what is wrong, want of memory aside
abbrev pub ReadsOrErrs : {V : Type 0} → (Level → V → Type 0) → Result V LineError → Type 0
ReadsOrErrs States (Ok v) = States Whole v
ReadsOrErrs States (Err e) = IsErrorOf States e
