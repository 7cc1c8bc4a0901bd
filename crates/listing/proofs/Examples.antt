-- Whole inputs of `packets`, computed: what the text program prints for document 01's example, and bad lines between the bytes of a packet.
-- Assumes nothing.
use mathlib.Core.Path.{◌≡◌, refl}
use Rattle.output.specs.ScanCodes.{is_make, is_break}
use Rattle.text.specs.Line.{hex_digit}
use Rattle.text.specs.Fronts.{until}
use Rattle.text.specs.Output.{text, decimal_in, hex_figure, hex_bytes, shown}
use Rattle.receiver.specs.Cut.{start, cut}
use Rattle.receiver.specs.Pieces.{pieces_from, left_from}
use Rattle.session.specs.Session.{ended_from, rest_from}
use Rattle.listing.specs.Input.{is_hex, spelt, field_bytes, is_number, answer_bytes, fields_bytes, line_of}
use Rattle.listing.specs.Rows.{row, rows, bad_row, left_row}
use Rattle.listing.specs.Listing.{printed, waiting_after, listing, whole_listing}

rules : Unit {0}
unfolding is_make is_break hex_digit until decimal_in hex_figure hex_bytes shown start cut pieces_from left_from ended_from rest_from is_hex spelt field_bytes is_number answer_bytes fields_bytes line_of row rows bad_row left_row printed waiting_after listing whole_listing
rules = tt

-- of the text program's output the last fields, and its header is passed over
pub document : whole_listing (text "line\tanswer\tbytes\n1\t0\t1E\n2\t0\tF803FE\n3\t0\t-\n4\t0\t-\n5\t0\t9E\n")
    ≡ text "packet\tbytes\nmake\t1E\nmouse motion\tF803FE\nbreak\t9E\n"
unfolding rules
document = refl

-- bad lines change nothing, cutting goes on behind a byte that starts no packet, and what is left comes last
pub bad_between : whole_listing (text "F8\n1e\n03FE00\n\nF0FC85") ≡ text "packet\tbytes\nbad line 2\t-\nmouse motion\tF803FE\nno packet\t00\nbad line 4\t-\nversion or break 70\tF0\ntoo few\tFC85\n"
unfolding rules
bad_between = refl
