-- How the program ends.
use Rattle.std.specs.Prelude.{ℕ, Bool, true, false}
use Rattle.mr_loop.specs.declared.fault.LoopFault.TheVariants as loop
use Rattle.mr_options.specs.declared.fault.UsageFault.TheVariants as usage
use Rattle.mr_trio_script.specs.declared.fault.TrioFault.TheVariants as trio
use Rattle.minired.specs.declared.failure.Failure.{Failure}
use Rattle.minired.specs.declared.failure.Failure.TheVariants.{Usage, Pipe, Loop, Stream, Trio, Listen, File, Random, Memory}

-- 1 where the words are refused, 2 where sockets fail or a line of a trio is late, and 3 where a stream or the file fails, memory runs out, or a group of the
-- master's is torn
abbrev pub status_of : Failure → ℕ
status_of (Usage (usage.Line text)) = 1
status_of (Usage usage.BadValue) = 1
status_of (Usage usage.BadMode) = 1
status_of (Usage usage.BadMaster) = 1
status_of (Usage usage.BadAddress) = 1
status_of (Usage usage.Memory) = 3
status_of (Pipe fault) = 3
status_of (Loop loop.Listener) = 2
status_of (Loop loop.File) = 3
status_of (Loop loop.Stopped) = 3
status_of Stream = 3
status_of (Trio trio.Stream) = 3
status_of (Trio trio.Stopped) = 3
status_of (Trio trio.Socket) = 2
status_of (Trio trio.Late) = 2
status_of (Listen port error) = 2
status_of (File path fault) = 3
status_of (Random error) = 3
status_of Memory = 3

-- that a line of a trio came late is told on standard output alone
abbrev pub is_told : Failure → Bool
is_told (Usage fault) = true
is_told (Pipe fault) = true
is_told (Loop fault) = true
is_told Stream = true
is_told (Trio trio.Stream) = true
is_told (Trio trio.Stopped) = true
is_told (Trio trio.Socket) = true
is_told (Trio trio.Late) = false
is_told (Listen port error) = true
is_told (File path fault) = true
is_told (Random error) = true
is_told Memory = true
