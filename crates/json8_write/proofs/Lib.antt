mod TextParts
mod LeafTexts
mod GroupTexts
mod WholeTables
mod Roominess
