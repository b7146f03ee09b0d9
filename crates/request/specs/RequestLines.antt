-- Request lines, as the law over every run takes lines.
use Rattle.book.specs.Runs.{Lines}
use Rattle.request.specs.Answers.{answer_bytes}
use Rattle.request.specs.Limits.{has_room}
use Rattle.request.specs.ReadBack.{identifier_read}
use Rattle.request.specs.Reading.{call_of}

-- how they are read and answered, and how the identifier in an answer is told
abbrev pub request_lines : Lines
request_lines = record { call_of = call_of; has_room = has_room; bytes_of = answer_bytes; recover = identifier_read }
