-- What a contract sees of a line buffer.
use Rattle.std.specs.Prelude.{drop, take}
use Rattle.shift_text.specs.declared.line_buffer.LineBuffer.{LineBuffer}
use Rattle.shift_text.specs.Buffers.{Buffer}

-- the bytes of a line buffer, cut behind those that are in use
abbrev pub buffer : LineBuffer → Buffer
buffer b = record { kept = take b.used b.bytes; beyond = drop b.used b.bytes }
