use Rattle.mr_bytes.proofs.Numbers.{number_of-signed_decimal, number_text}
use Rattle.mr_bytes.proofs.laws.number_texts.Goals as goal

pub returns-clause-written_and_read : goal.returns-clause-written_and_read
returns-clause-written_and_read c = number_of-signed_decimal

pub returns-clause-read_and_written : goal.returns-clause-read_and_written
returns-clause-read_and_written c = number_text
