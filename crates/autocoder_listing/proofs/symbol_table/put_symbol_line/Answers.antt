-- The columns, one after the other.
use Rattle.std.proofs.Common.{ℤ, Option, subst}
use Rattle.bytes_text.proofs.AddsLemmas.{adds}
use Rattle.bytes_text.specs.Written.{Adds}
use Rattle.autocoder_listing.specs.Listing.{address_text}
use Rattle.autocoder_listing.specs.SymbolTable.{symbol_line}
use Rattle.autocoder_listing.proofs.symbol_table.put_symbol_line.Goals as goal

pub returns : goal.returns
unfolding symbol_line
returns c =
    let old = c.args.text.now in
    let address = c.put_address.new.text in
    let length = c.put_length.new.text in
    let number = c.put_number.new.self in
    adds old number c.put-5.new.self _ _
    (adds old c.put-4.new.self number _ _
    (adds old length c.put-4.new.self _ _
    (adds old c.put-3.new.self length _ _
    (adds old address c.put-3.new.self _ _
    (adds old c.put-2.new.self address _ _
    (adds old c.put.new.self c.put-2.new.self _ _ c.put.ensures c.put-2.ensures)
    (subst (λ (shown : Option ℤ). Adds c.put-2.new.self address (address_text shown)) c.shown_value.ensures
    c.put_address.ensures))
    c.put-3.ensures)
    c.put_length.ensures)
    c.put-4.ensures)
    c.put_number.ensures)
    c.put-5.ensures
